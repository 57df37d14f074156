-- The parsers of small parts, as functions over tokens: what the first tokens spell and the tokens behind that, or the
-- fault of the first token that does not fit.
use Rattle.std.specs.Prelude.{ℕ, nat_le, if◌then◌else◌, List, [], ◌∷◌, length, Option, None, Some, Result, Ok, Err, codes}
use Rattle.std.specs.Str.{bytes_eq}
use Rattle.rule_tokens.specs.declared.fault.RuleFaultKind.{RuleFaultKind}
use Rattle.rule_tokens.specs.declared.fault.RuleFaultKind.TheVariants.{BadByte, Syntax, LeftOut, TooMany}
use Rattle.rule_tokens.specs.RuleFaults.{RuleFault}
use Rattle.rule_tokens.specs.Limits.{Limits}
use Rattle.rule_tokens.specs.Numbers.{type_in}
use Rattle.rule_tokens.specs.Tokens.{Token, Line, Word, Bad, Excess}

-- what is read, and the tokens that are left, or a fault
abbrev pub Read : Type 0 → Type 0
Read A = Result (A × List Token) RuleFault

abbrev pub fault : ℕ → RuleFaultKind → RuleFault
fault line kind = record { line = line; kind = kind }

-- ---- the fault of the first token, which is on this line

-- the first token is of a kind that doesn't fit here, or the line ends too soon
abbrev pub unexpected : ℕ → List Token → RuleFault
unexpected line (Bad ∷ tokens) = fault line BadByte
unexpected line (Excess ∷ tokens) = fault line TooMany
unexpected line tokens = fault line Syntax

-- a word that doesn't fit, where other words would, is left out of the language; `hasOneUse` isn't, since the language
-- has it elsewhere
abbrev pub misplaced_word : ℕ → List ℕ → RuleFault
misplaced_word line word = fault line (if bytes_eq word (codes "hasOneUse") then Syntax else LeftOut word)

-- the first token doesn't fit where other words would
abbrev pub left_out : ℕ → List Token → RuleFault
left_out line (Word word ∷ tokens) = misplaced_word line word
left_out line tokens = unexpected line tokens

-- ---- words, names and types

-- the meaning of a word, or the fault that it has none
abbrev pub or_left_out : {A : Type 0} → ℕ → List ℕ → Option A → List Token → Read A
or_left_out line word (Some x) rest = Ok (x, rest)
or_left_out line word None rest = Err (misplaced_word line word)

-- the name, if it keeps to the limit
unfoldable pub name_within : Limits → ℕ → List ℕ → Result (List ℕ) RuleFault
name_within limits line name = if nat_le (length name) limits.name_bytes then Ok name else Err (fault line TooMany)

-- a type is read
unfoldable pub type_at : ℕ → List Token → Read ℕ
type_at line (Word word ∷ rest) = or_left_out line word (type_in word) rest
type_at line tokens = Err (unexpected line tokens)

-- a type is read where one is next
abbrev pub type_or_word : List ℕ → Option ℕ → List Token → Option ℕ × List Token
type_or_word word (Some width) rest = (Some width, rest)
type_or_word word None rest = (None, Word word ∷ rest)

unfoldable pub maybe_type : List Token → Option ℕ × List Token
maybe_type (Word word ∷ rest) = type_or_word word (type_in word) rest
maybe_type tokens = (None, tokens)

-- ---- the ends of lines

-- the end of the line is next; it isn't taken
abbrev pub line_end : ℕ → List Token → Result (List Token) RuleFault
line_end line [] = Ok []
line_end line (Line next ∷ rest) = Ok (Line next ∷ rest)
line_end line tokens = Err (unexpected line tokens)
