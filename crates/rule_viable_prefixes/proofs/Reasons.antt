-- Why a token does not fit within limits, by which other tokens fit in its place.
use Rattle.rule_viable_prefixes.proofs.Common.{◌≡◌, ◌≢◌, ◌⊎◌, ℕ, ◌+◌, ◌<◌, ◌≤◌, List, [], ◌∷◌, length, IsTrue, if◌then◌else◌, codes, is_constant, is_among, Function, RuleFaultKind, BadByte, Syntax, LeftOut, TooMany, Limits, Token, Line, Head, Name, Register, Word, Fact, Number, Arrow, Mark, Bad, Predicate, predicate_word, IsPrefix, IsCalled, IsChoice, Fitting, NounFits, RepeatsFlag}
use Rattle.rule_tokens.specs.declared.fact.BitFact.TheVariants as facts

-- ---- nesting

-- tokens that open a level of nesting for what is behind them
pub data Nests : Token → Type 0 where
  parenthesis : Nests (Mark (codes "("))
  sign : (function : Function) (mark : List ℕ) → IsPrefix function mark → Nests (Mark mark)
  function : (function : Function) (word : List ℕ) → IsCalled function word → Nests (Word word)
  width : Nests (Word (codes "width"))
  negation : Nests (Mark (codes "!"))
  test : (predicate : Predicate) → Nests (Word (predicate_word predicate))
  masked : Nests (Fact facts.MaskedValueIsZero)

-- marks that may open a level of nesting; `-` may also be binary
abbrev pub opening_marks : List (List ℕ)
opening_marks = codes "(" ∷ codes "-" ∷ codes "~" ∷ codes "!" ∷ []

abbrev pub openings : Token → ℕ
openings (Mark mark) = if is_among opening_marks mark then 1 else 0
openings token = 0

-- how many of these marks are on the line that the tokens end on; `before` is how many were on the line that they begin
-- on
abbrev pub openings_behind : ℕ → List Token → ℕ
openings_behind before [] = before
openings_behind before (Line number ∷ tokens) = openings_behind 0 tokens
openings_behind before (token ∷ tokens) = openings_behind (before + openings token) tokens

abbrev pub openings_on_line : List Token → ℕ
openings_on_line tokens = openings_behind 0 tokens

-- The token would open a level of nesting, where an operand of one token fits, but at least as many marks that may open
-- one are on its line as levels are allowed.
abbrev pub IsTooDeep : Limits → ℕ → Fitting → Token → Type 0
IsTooDeep limits opened fits token = (limits.nested ≤ opened) × Nests token × fits (Number (codes "0"))

-- ---- words that are told as `Syntax` although a noun fits

pub data IsExcused (limits : Limits) (fits : Fitting) (front : List Token) (word : List ℕ) : Type 0 where
  -- it is `hasOneUse`, which the language has elsewhere: `%r = hasOneUse`
  one_use : word ≡ codes "hasOneUse" → IsExcused limits fits front word
  -- the instruction has the flag already: `%r = add nuw nuw`
  repeated : RepeatsFlag front word → IsExcused limits fits front word
  -- a function or a predicate is nested too deep: `log2 +` behind 32 `(`
  nested : IsTooDeep limits (openings_on_line front) fits (Word word) → IsExcused limits fits front word

-- ---- limits

-- a name of more bytes than the limit, where a shorter one of the same sort fits
abbrev pub IsTooLong : Limits → Fitting → (List ℕ → Token) → (List ℕ → Type 0) → List ℕ → Type 0
IsTooLong limits fits token IsOfSort name =
    (short : List ℕ) × (limits.name_bytes < length name) × (length short ≤ limits.name_bytes) × IsOfSort name × IsOfSort short × fits (token short)

-- the half may end: `=>` fits, or `Name:`
abbrev pub HalfEnds : Fitting → Type 0
HalfEnds fits = fits Arrow ⊎ fits (Head (codes "Name:"))

-- With the token a limit of names, statements or nesting is passed; `opened` is how many marks that may open a level
-- are before it on its line.
pub data IsTooMany (limits : Limits) (opened : ℕ) (fits : Fitting) : Token → Type 0 where
  name : (name : List ℕ) → IsTooLong limits fits Name (λ text. 1 ≤ length text) name → IsTooMany limits opened fits (Name name)
  register : (name : List ℕ) → IsTooLong limits fits Register (λ text. Unit {0}) name → IsTooMany limits opened fits (Register name)
  constant : (name : List ℕ) → IsTooLong limits fits Word (λ word. IsTrue (is_constant word)) name → IsTooMany limits opened fits (Word name)
  choice : (name : List ℕ) → IsTooLong limits fits Word (λ word. (place : ℕ) × IsChoice word place) name → IsTooMany limits opened fits (Word name)
  -- the register of one more statement, where the half may end: it is full
  statement : (name : List ℕ) → HalfEnds fits → IsTooMany limits opened fits (Register name)
  nesting : (token : Token) → IsTooDeep limits opened fits token → IsTooMany limits opened fits token

-- ---- kinds

-- What the kind says of the token itself: `BadByte`, that it is a byte that may not stand; `TooMany`, that a limit is
-- passed with it; `LeftOut`, that it is a word other than `hasOneUse` where a noun fits; `Syntax`, that it is no byte
-- that may not stand. No token has another kind.
abbrev pub Says : Limits → ℕ → Fitting → Token → RuleFaultKind → Type 0
Says limits opened fits token BadByte = token ≡ Bad
Says limits opened fits token TooMany = IsTooMany limits opened fits token
Says limits opened fits token (LeftOut left) = (token ≡ Word left) × (left ≢ codes "hasOneUse") × NounFits fits
Says limits opened fits token Syntax = token ≢ Bad
Says limits opened fits token kind = ⊥

-- the kind of the fault at the first of these tokens, where it is neither `LeftOut` nor `TooMany`
abbrev pub kind_at : List Token → RuleFaultKind
kind_at (Bad ∷ tokens) = BadByte
kind_at tokens = Syntax

-- it names what stands in parentheses behind it
abbrev pub IsApplied : Token → Type 0
IsApplied (Word word) = Unit {0}
IsApplied (Fact fact) = Unit {0}
IsApplied token = ⊥

-- Such a token that is nested too deep, with no `(` behind it, is told as the token behind it is: `log2 +` behind 32
-- `(`.
abbrev pub IsReadOn : Limits → ℕ → Fitting → Token → List Token → RuleFaultKind → Type 0
IsReadOn limits opened fits token behind kind =
    IsApplied token × IsTooDeep limits opened fits token × ((more : List Token) → behind ≢ Mark (codes "(") ∷ more) × (kind ≡ kind_at behind)

-- what the kind says of the token at the fault, or of the tokens behind it
pub data IsMisfit (limits : Limits) (opened : ℕ) (fits : Fitting) (token : Token) (behind : List Token) (kind : RuleFaultKind) : Type 0 where
  itself : Says limits opened fits token kind → IsMisfit limits opened fits token behind kind
  read_on : IsReadOn limits opened fits token behind kind → IsMisfit limits opened fits token behind kind

-- The token is the number of an unknown version, behind `Version:`.
abbrev pub IsOtherVersion : List Token → Token → RuleFaultKind → Type 0
IsOtherVersion front token kind =
    (line : ℕ) × (left : List ℕ) × (front ≡ Line line ∷ Head (codes "Version:") ∷ []) × (token ≡ Number left) × (kind ≡ LeftOut left)
