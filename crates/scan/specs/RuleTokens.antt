-- The tokens of rule files, and which bytes spell them.
use Rattle.std.specs.Prelude.{◌≡◌, ◌≢◌, ℕ, ◌-◌, ◌≤◌, ◌==◌, Bool, true, false, not, ◌&&◌, ◌||◌, if◌then◌else◌, List, [], ◌∷◌, length, take, drop, Option, Some, None, codes}
use Rattle.std.specs.Str.{bytes_eq}
use Rattle.std.specs.List.{list_all, list_any}
use Rattle.scan.specs.declared.rule_token.RuleKind.{RuleKind}
use Rattle.scan.specs.declared.rule_token.RuleKind.TheVariants.{End, Other, Head, Register, Word, Number, Arrow, Mark}
use Rattle.scan.specs.declared.rule_token.RuleToken.{RuleToken}
use Rattle.scan.specs.Bytes.{is_blank, is_bad, is_digit, is_letter, is_name_byte, is_word_byte, is_register_byte, begins_with, is_run_behind, are_digits}
use Rattle.scan.specs.Gaps.{IsGap, IsLastGap}
use Rattle.scan.specs.GapFronts.{in_gap}
use Rattle.scan.specs.Lines.{between, feeds, line_of, last_line}

-- the bytes are one of the words
abbrev pub is_among : List (List ℕ) → List ℕ → Bool
is_among words bytes = list_any (bytes_eq bytes) words

-- the heads of the parts of a rule file
abbrev pub heads : List (List ℕ)
heads = codes "Version:" ∷ codes "Name:" ∷ codes "Pre:" ∷ codes "Wit:" ∷ []

-- the marks that are tokens in every place: punctuation, operators and comparisons
abbrev pub marks : List (List ℕ)
marks =
    codes "=" ∷ codes "," ∷ codes "(" ∷ codes ")"
    ∷ codes "~" ∷ codes "*" ∷ codes "/" ∷ codes "+" ∷ codes "-"
    ∷ codes "<<" ∷ codes ">>" ∷ codes "u>>" ∷ codes "&" ∷ codes "^" ∷ codes "|"
    ∷ codes "==" ∷ codes "!=" ∷ codes "<" ∷ codes "<=" ∷ codes ">" ∷ codes ">="
    ∷ codes "u<" ∷ codes "u<=" ∷ codes "u>" ∷ codes "u>="
    ∷ codes "!" ∷ codes "&&" ∷ codes "||" ∷ []

-- a blank or `(`, which make a `%` before them an operator
abbrev pub begins_argument : ℕ → Bool
begins_argument b = is_blank b || (b == 40)

-- the operators `/u` and `%u`, where no name byte follows
unfoldable pub is_unsigned_operator : List ℕ → List ℕ → Bool
is_unsigned_operator bytes rest = is_among (codes "/u" ∷ codes "%u" ∷ []) bytes && not (begins_with is_name_byte rest)

-- the operator `%`, where a blank or `(` follows
unfoldable pub is_remainder : List ℕ → List ℕ → Bool
is_remainder bytes rest = is_among (codes "%" ∷ []) bytes && begins_with begins_argument rest

-- the operators that are tokens only in an operator's place
unfoldable pub is_placed_operator : List ℕ → List ℕ → Bool
is_placed_operator bytes rest = is_unsigned_operator bytes rest || is_remainder bytes rest

-- a mark, with this rest behind it
unfoldable pub is_mark : Bool → List ℕ → List ℕ → Bool
is_mark operator bytes rest = is_among marks bytes || (operator && is_placed_operator bytes rest)

-- what stands between source and target
abbrev pub arrows : List (List ℕ)
arrows = codes "=>" ∷ []

-- a register: `%`, and letters, digits, `_` and `.`
unfoldable pub is_register : List ℕ → Bool
is_register bytes = is_run_behind 37 is_register_byte bytes

-- a word: a letter, then letters, digits and `_`
unfoldable pub is_rule_word : List ℕ → Bool
is_rule_word text = begins_with is_letter text && list_all is_word_byte text

-- `-`, and digits behind it
unfoldable pub is_negative : List ℕ → Bool
is_negative bytes = is_run_behind 45 is_digit bytes

-- a literal: digits, and, unless they are in an operator's place, maybe a `-` before them
unfoldable pub is_literal : Bool → List ℕ → Bool
is_literal operator bytes = are_digits bytes || (not operator && is_negative bytes)

-- the kind of token that the bytes are with this rest behind them, in an operator's place or not, if they are one.
-- Marks are tested first, since `%u` would be a register too; no other bytes are of two kinds.
unfoldable pub kind_of : Bool → List ℕ → List ℕ → Option RuleKind
kind_of operator bytes rest =
    if is_mark operator bytes rest then Some Mark
    else (if is_among heads bytes then Some Head
    else (if is_among arrows bytes then Some Arrow
    else (if is_register bytes then Some Register
    else (if is_rule_word bytes then Some Word
    else (if is_literal operator bytes then Some Number else None)))))

-- the first n bytes are a token of the kind, and no prefix of more bytes is a token
pub record IsLongestToken (operator : Bool) (text : List ℕ) (kind : RuleKind) (n : ℕ) : Type 0 where
  pub within : n ≤ length text
  pub of_kind : kind_of operator (take n text) (drop n text) ≡ Some kind
  pub longest : (m : ℕ) → m ≤ length text → kind_of operator (take m text) (drop m text) ≢ None → m ≤ n

-- the first byte is neither invalid nor in a gap, and no prefix is a token
pub record BeginsNoToken (operator : Bool) (text : List ℕ) : Type 0 where
  pub visible : begins_with (λ b. not (is_bad b || in_gap b)) text ≡ true
  pub no_token : (m : ℕ) → m ≤ length text → kind_of operator (take m text) (drop m text) ≡ None

-- What the text begins with, of n bytes: the longest token, the end of the text, or one byte that begins no token. A
-- text that begins with a gap begins with none of these.
abbrev pub Begins : Bool → List ℕ → RuleKind → ℕ → Type 0
Begins operator text End n = (text ≡ []) × (n ≡ 0)
Begins operator text Other n = BeginsNoToken operator text × (n ≡ 1)
Begins operator text kind n = IsLongestToken operator text kind n

-- the gap may stand before a token of the kind
abbrev pub IsGapBefore : RuleKind → List ℕ → Type 0
IsGapBefore End gap = IsLastGap gap
IsGapBefore kind gap = IsGap gap

-- the line of a token of the kind that begins at `start`
abbrev pub line_at : RuleKind → List ℕ → ℕ → ℕ
line_at End text start = last_line text
line_at kind text start = line_of text start

-- A token is in an operator's place if the token before it ends a primary and stands on the same line; each part of a
-- rule is on a line of its own.
abbrev pub in_operator_place : Bool → List ℕ → Bool
in_operator_place operator gap = operator && (feeds gap == 0)

-- t is the next token of the text from the place on, behind a gap; `operator` is whether the token before ends a
-- primary
pub record IsNextRuleToken (operator : Bool) (text : List ℕ) (place : ℕ) (t : RuleToken) : Type 0 where
  pub order : (place ≤ t.span.start) × (t.span.start ≤ t.span.end) × (t.span.end ≤ length text)
  pub gap : IsGapBefore t.kind (between text place t.span.start)
  pub token : Begins (in_operator_place operator (between text place t.span.start)) (drop t.span.start text) t.kind (t.span.end - t.span.start)
  pub line : t.line ≡ line_at t.kind text t.span.start

-- from the place on stands, behind a gap, an invalid byte, on this line
pub record IsBadNext (text : List ℕ) (place line : ℕ) : Type 0 where
  pub start : ℕ
  pub order : place ≤ start
  pub gap : IsGap (between text place start)
  pub bad : begins_with is_bad (drop start text) ≡ true
  pub line_is : line ≡ line_of text start

-- a constant: `C`, and any number of digits
unfoldable pub is_constant : List ℕ → Bool
is_constant [] = false
is_constant (b ∷ digits) = (b == 67) && list_all is_digit digits

-- the name of a choice of the target, as `Wit:` uses it: `t` and digits
unfoldable pub is_choice : List ℕ → Bool
is_choice text = is_run_behind 116 is_digit text

-- the token ends a primary of a term: a register, a number, `)`, a constant or a choice of the target
unfoldable pub ends_primary : RuleKind → List ℕ → Bool
ends_primary Register bytes = true
ends_primary Number bytes = true
ends_primary Mark bytes = bytes_eq bytes (codes ")")
ends_primary Word bytes = is_constant bytes || is_choice bytes
ends_primary kind bytes = false
