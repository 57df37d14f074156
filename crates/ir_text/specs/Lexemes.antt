-- Texts that are written token by token, with blanks and line feeds between them, and when they are lexed as these
-- tokens (LLVM Language Reference, "Identifiers").
use Rattle.std.specs.Prelude.{◌≡◌, ℕ, ◌+◌, ◌==◌, Bool, true, false, not, ◌||◌, List, [], ◌∷◌, ◌++◌}
use Rattle.std.specs.List.{list_all, flat_map}
use Rattle.scan.specs.Bytes.{begins_with, is_name_byte, is_space}
use Rattle.scan.specs.IrTokens.{HoldsZero, is_group, is_name, is_word, marks}
use Rattle.scan.specs.Kept.{IsBalanced}
use Rattle.scan.specs.Lines.{feeds}
use Rattle.scan.specs.Quoted.{is_quoted}
use Rattle.scan.specs.RuleTokens.{is_among}
use Rattle.ir_tokens.specs.declared.place.Section.{Section}
use Rattle.ir_tokens.specs.declared.place.Section.TheVariants.{AtEntry, InHeader, InBody}
use Rattle.ir_tokens.specs.declared.place.Extent.TheVariants as extents
use Rattle.ir_tokens.specs.Numbers.{is_number}
use Rattle.ir_tokens.specs.Order.{AreTokens}
use Rattle.ir_tokens.specs.Places.{extent_of, is_on, place_behind}
use Rattle.ir_tokens.specs.Tokens.{Placed, Token, End, Other, Bad, Kept, KeptGroup, Label, Word, Number, Register, Function, Group, Metadata, Quoted, Mark}

-- ---- what is written

-- the bytes of a token; the end is written as none, and tokens that the grammar allows nowhere are not written
abbrev pub bytes_of : Token → List ℕ
bytes_of End = []
bytes_of Other = []
bytes_of Bad = []
bytes_of (Kept text) = text
bytes_of (KeptGroup text) = text
bytes_of (Label name) = name ++ 58 ∷ []
bytes_of (Word text) = text
bytes_of (Number text) = text
bytes_of (Register name) = 37 ∷ name
bytes_of (Function name) = 64 ∷ name
bytes_of (Group text) = text
bytes_of (Metadata name) = 33 ∷ name
bytes_of (Quoted text) = text
bytes_of (Mark byte) = byte ∷ []

-- a token as it is written, with the blanks and line feeds before it
pub record Lexeme : Type 0 where
  pub gap : List ℕ
  pub token : Token

-- the bytes of a lexeme, and of a list of lexemes
abbrev pub spelling : Lexeme → List ℕ
spelling l = l.gap ++ bytes_of l.token

abbrev pub spelled : List Lexeme → List ℕ
spelled lexemes = flat_map spelling lexemes

-- the line of a lexeme, where the text before it ends on this line
abbrev pub line_behind : ℕ → Lexeme → ℕ
line_behind line l = line + feeds l.gap

-- the tokens of lexemes with their lines, where the text before them ends on this line
abbrev pub placed_from : ℕ → List Lexeme → List Placed
placed_from line [] = []
placed_from line (l ∷ lexemes) = (line_behind line l, l.token) ∷ placed_from (line_behind line l) lexemes

-- ---- the forms of tokens

-- a name that is plain, digits or quoted, and has no byte 0
abbrev pub IsNameText : List ℕ → Type 0
IsNameText text = (is_name text ≡ true) × ¬ HoldsZero text

-- `(` and the `)` that closes it
abbrev pub IsGroupText : List ℕ → Type 0
IsGroupText text = (content : List ℕ) × IsBalanced content × (text ≡ 40 ∷ (content ++ 41 ∷ []))

-- the bytes of the token have the form of its kind
abbrev pub HasForm : Token → Type 0
HasForm End = ⊥
HasForm Other = ⊥
HasForm Bad = ⊥
HasForm (Kept text) = AreTokens text ((1, Kept text) ∷ (1, End) ∷ [])
HasForm (KeptGroup text) = IsGroupText text
HasForm (Label name) = IsNameText name
HasForm (Word text) = is_word text ≡ true
HasForm (Number text) = is_number text ≡ true
HasForm (Register name) = IsNameText name
HasForm (Function name) = IsNameText name
HasForm (Group text) = is_group text ≡ true
HasForm (Metadata name) = list_all is_name_byte name ≡ true
HasForm (Quoted text) = (is_quoted text ≡ true) × ¬ HoldsZero text
HasForm (Mark byte) = is_among marks (byte ∷ []) ≡ true

-- ---- where tokens may be written

-- the byte would continue a word, a number or a name, or make a label of it
abbrev pub goes_on : ℕ → Bool
goes_on b = is_name_byte b || (b == 58)

-- No byte at the start of the rest continues the token. Each mark but `#` ends by itself.
abbrev pub is_ended : Token → List ℕ → Bool
is_ended (Mark byte) rest = not (byte == 35) || not (begins_with goes_on rest)
is_ended token rest = not (begins_with goes_on rest)

-- the rest is empty or begins with a line feed
abbrev pub is_at_line_end : List ℕ → Bool
is_at_line_end [] = true
is_at_line_end (b ∷ rest) = b == 10

-- a kept line may be written in this context on this line: between entries, where no token before is on the line
abbrev pub takes_line : Section → ℕ → Bool
takes_line (AtEntry before) line = not (is_on line before)
takes_line (InHeader word) line = false
takes_line (InBody word) line = false

-- a kept group may be: in a function, behind a word on the line
abbrev pub takes_group : Section → ℕ → Bool
takes_group (AtEntry before) line = false
takes_group (InHeader word) line = is_on line word
takes_group (InBody word) line = is_on line word

-- the token may be written in this context on this line, with this rest behind it
abbrev pub MayStand : Section → ℕ → Token → List ℕ → Type 0
MayStand place line (Kept text) rest = (takes_line place line ≡ true) × (is_at_line_end rest ≡ true)
MayStand place line (KeptGroup text) rest = takes_group place line ≡ true
MayStand place line token rest = (extent_of place line (bytes_of token) ≡ extents.Itself) × (is_ended token rest ≡ true)

-- The lexemes are lexed as their tokens in this context, where the text before them ends on this line, and with this
-- rest behind them.
abbrev pub AreLexemes : Section → ℕ → List Lexeme → List ℕ → Type 0
AreLexemes place line [] rest = Unit {0}
AreLexemes place line (l ∷ lexemes) rest =
    (list_all is_space l.gap ≡ true)
    × HasForm l.token
    × MayStand place (line_behind line l) l.token (spelled lexemes ++ rest)
    × AreLexemes (place_behind place (line_behind line l, l.token)) (line_behind line l) lexemes rest
