-- The tokens of modules of LLVM IR, and which bytes spell them (language reference, "Identifiers").
use Rattle.std.specs.Prelude.{◌≡◌, ℕ, ◌-◌, ◌≤◌, ◌<◌, ◌==◌, Bool, true, false, not, ◌&&◌, ◌||◌, ◌⊎◌, List, [], ◌∷◌, length, take, drop, slice_index, codes}
use Rattle.std.specs.List.{list_all, Contains}
use Rattle.scan.specs.declared.ir.token.TokenKind.{TokenKind}
use Rattle.scan.specs.declared.ir.token.TokenKind.TheVariants.{End, Other, Label, Word, Number, Register, Function, Group, Metadata, Quoted, Mark}
use Rattle.scan.specs.declared.ir.token.Token.{Token}
use Rattle.scan.specs.Bytes.{is_bad, is_digit, begins_name, begins_word, is_name_byte, begins_with, is_run_behind, are_digits}
use Rattle.scan.specs.Gaps.{IsGap, IsLastGap}
use Rattle.scan.specs.GapFronts.{in_gap}
use Rattle.scan.specs.Lines.{between, line_of, last_line}
use Rattle.scan.specs.Quoted.{is_quoted, in_quotes, unquoted}
use Rattle.scan.specs.RuleTokens.{is_among, is_negative}

-- ---- names

-- a plain name: bytes of names of which the first is no digit
unfoldable pub is_plain_name : List ℕ → Bool
is_plain_name text = begins_with begins_name text && list_all is_name_byte text

-- a name: plain, digits, or quoted
unfoldable pub is_name : List ℕ → Bool
is_name text = is_plain_name text || are_digits text || is_quoted text

-- the byte c, and behind it bytes that pass the test
abbrev pub is_behind : ℕ → (List ℕ → Bool) → List ℕ → Bool
is_behind c test [] = false
is_behind c test (b ∷ text) = (b == c) && test text

-- bytes that pass the test, and the byte c behind them
abbrev pub is_before : ℕ → (List ℕ → Bool) → List ℕ → Bool
is_before c test text = test (take (length text - 1) text) && (slice_index text (length text - 1) == c)

-- ---- the kinds of tokens

-- a label: a name, and `:` behind it
unfoldable pub is_label : List ℕ → Bool
is_label text = is_before 58 is_name text

-- a word: bytes of names of which the first is a letter, `$`, `.` or `_`
unfoldable pub is_word : List ℕ → Bool
is_word text = begins_with begins_word text && list_all is_name_byte text

-- a number: digits, maybe a `-` before them, where no byte of names follows
unfoldable pub is_number : List ℕ → List ℕ → Bool
is_number text rest = (are_digits text || is_negative text) && not (begins_with is_name_byte rest)

-- a register: `%` and a name
unfoldable pub is_register : List ℕ → Bool
is_register text = is_behind 37 is_name text

-- a function: `@` and a name
unfoldable pub is_function : List ℕ → Bool
is_function text = is_behind 64 is_name text

-- a group of attributes: `#` and digits
unfoldable pub is_group : List ℕ → Bool
is_group text = is_run_behind 35 is_digit text

-- metadata: `!`, and any number of bytes of names
unfoldable pub is_metadata : List ℕ → Bool
is_metadata text = is_behind 33 (list_all is_name_byte) text

-- the marks; `#` before a digit is none, since a group of attributes is longer
abbrev pub marks : List (List ℕ)
marks =
    codes "=" ∷ codes "," ∷ codes "(" ∷ codes ")" ∷ codes "{" ∷ codes "}" ∷ codes "[" ∷ codes "]" ∷ codes "<" ∷ codes "#" ∷ []

-- the bytes, with this rest behind them, are a token of the kind; no bytes are tokens of two kinds
abbrev pub spells : TokenKind → List ℕ → List ℕ → Bool
spells End text rest = false
spells Other text rest = false
spells Label text rest = is_label text
spells Word text rest = is_word text
spells Number text rest = is_number text rest
spells Register text rest = is_register text
spells Function text rest = is_function text
spells Group text rest = is_group text
spells Metadata text rest = is_metadata text
spells Quoted text rest = is_quoted text
spells Mark text rest = is_among marks text

-- ---- what a text begins with

-- the first n bytes are a token of the kind, and no prefix of more bytes is a token
pub record IsLongestToken (text : List ℕ) (kind : TokenKind) (n : ℕ) : Type 0 where
  pub within : n ≤ length text
  pub of_kind : spells kind (take n text) (drop n text) ≡ true
  pub longest : (other : TokenKind) (m : ℕ) → m ≤ length text → spells other (take m text) (drop m text) ≡ true → m ≤ n

-- the same, where n is 0 if no prefix is a token
pub record IsLongestFront (text : List ℕ) (kind : TokenKind) (n : ℕ) : Type 0 where
  pub within : n ≤ length text
  pub found : 0 < n → spells kind (take n text) (drop n text) ≡ true
  pub longest : (other : TokenKind) (m : ℕ) → m ≤ length text → spells other (take m text) (drop m text) ≡ true → m ≤ n

-- the first byte is neither invalid nor in a gap, and no prefix is a token
pub record BeginsNoToken (text : List ℕ) : Type 0 where
  pub visible : begins_with (λ b. not (is_bad b || in_gap b)) text ≡ true
  pub no_token : (kind : TokenKind) (m : ℕ) → m ≤ length text → spells kind (take m text) (drop m text) ≡ false

-- What the text begins with, of n bytes: the longest token, the end of the text, or one byte that begins no token. A
-- text that begins with a gap begins with none of these.
abbrev pub Begins : List ℕ → TokenKind → ℕ → Type 0
Begins text End n = (text ≡ []) × (n ≡ 0)
Begins text Other n = BeginsNoToken text × (n ≡ 1)
Begins text kind n = IsLongestToken text kind n

-- one of the bytes that the first quoted text among these bytes stands for is 0
abbrev pub HoldsZero : List ℕ → Type 0
HoldsZero text = Contains (unquoted (in_quotes text)) 0

-- the text begins with an invalid byte, or with a token that has a byte 0 in quotes
abbrev pub BeginsBadly : List ℕ → Type 0
BeginsBadly text = (begins_with is_bad text ≡ true) ⊎ ((kind : TokenKind) × (n : ℕ) × IsLongestToken text kind n × HoldsZero (take n text))

-- the gap may stand before a token of the kind
abbrev pub IsGapBefore : TokenKind → List ℕ → Type 0
IsGapBefore End gap = IsLastGap gap
IsGapBefore kind gap = IsGap gap

-- the line of a token of the kind that begins at `start`
abbrev pub line_at : TokenKind → List ℕ → ℕ → ℕ
line_at End text start = last_line text
line_at kind text start = line_of text start

-- t is the next token of the text from the place on, behind a gap
pub record IsNextToken (text : List ℕ) (place : ℕ) (t : Token) : Type 0 where
  pub order : (place ≤ t.span.start) × (t.span.start ≤ t.span.end) × (t.span.end ≤ length text)
  pub gap : IsGapBefore t.kind (between text place t.span.start)
  pub token : Begins (drop t.span.start text) t.kind (t.span.end - t.span.start)
  pub no_zero : ¬ HoldsZero (between text t.span.start t.span.end)
  pub line : t.line ≡ line_at t.kind text t.span.start

-- from the place on stands, behind a gap, an invalid byte or an invalid token, on this line
pub record IsBadToken (text : List ℕ) (place line : ℕ) : Type 0 where
  pub start : ℕ
  pub order : place ≤ start
  pub gap : IsGap (between text place start)
  pub bad : BeginsBadly (drop start text)
  pub line_is : line ≡ line_of text start
