-- Parsers as functions: from a list of tokens to what its front spells and the tokens behind that, or to the fault of
-- the first token that does not fit.
use Rattle.std.specs.Prelude.{◌≡◌, ◌<◌, true, ℕ, zero, suc, Bool, if◌then◌else◌, List, [], ◌∷◌, ◌++◌, length, Option, Some, None, Result, Ok, Err}
use Rattle.ir_tokens.specs.Tokens.{Placed}
use Rattle.ir_tokens.specs.declared.fault.IrFaultKind.{IrFaultKind}
use Rattle.ir_tokens.specs.declared.fault.IrFaultKind.TheVariants.{Syntax, LeftOut}
use Rattle.refusal.specs.declared.fault.Fault.{Fault}
use Rattle.ir_instructions.specs.declared.place.Expected.{Expected}
use Rattle.ir_instructions.specs.Places.{misfit}

-- the result of a parser: what was read, and the tokens behind it
abbrev pub Read : Type 0 → Type 0
Read A = Result (A × List Placed) (Fault IrFaultKind)

abbrev pub Reader : Type 0 → Type 0
Reader A = List Placed → Read A

abbrev pub fault : ℕ → IrFaultKind → Fault IrFaultKind
fault line kind = record { line = line; kind = kind }

-- The fault of the first token, which does not fit where this is expected. The tokens of a text end with one behind
-- which nothing is read, so that there is a first one.
unfoldable pub unexpected : Expected → List Placed → Fault IrFaultKind
unexpected place [] = fault 0 Syntax
unexpected place ((line, token) ∷ rest) = fault line (misfit place token)

-- the result of a parser, continued by another that may use what was read; a fault stays
abbrev pub goes_on : {A B : Type 0} → Read A → (A → Reader B) → Read B
goes_on (Ok x) next = next x.0 x.1
goes_on (Err e) next = Err e

infixl 10 ◌>>=◌
abbrev pub ◌>>=◌ : {A B : Type 0} → Reader A → (A → Reader B) → Reader B
(first >>= next) tokens = goes_on (first tokens) next

-- the parser that reads nothing and gives x
abbrev pub done : {A : Type 0} → A → Reader A
done x tokens = Ok (x, tokens)

-- the parser that reads nothing and gives this result
abbrev pub given : {A : Type 0} → Result A (Fault IrFaultKind) → Reader A
given (Ok x) tokens = Ok (x, tokens)
given (Err e) tokens = Err e

-- what a word on a line stands for; a word that stands for nothing is not supported
abbrev pub or_left_out : {A : Type 0} → ℕ → List ℕ → Option A → Reader A
or_left_out line word (Some x) tokens = Ok (x, tokens)
or_left_out line word None tokens = Err (fault line (LeftOut word))

-- ---- repeated productions

-- Repeats a step, which goes on from what was read before, as long as another is next. The number bounds how often it
-- is repeated.
unfoldable pub steps_at : {A : Type 0} → (List Placed → Bool) → (A → Reader A) → ℕ → A → Reader A
steps_at is_next step zero before tokens = Err (fault 0 Syntax)
steps_at is_next step (suc n) before tokens = if is_next tokens then (step before >>= steps_at is_next step n) tokens else Ok (before, tokens)

-- the same without a bound: one more than there are tokens is enough, if each step takes some
abbrev pub repeat_at : {A : Type 0} → (List Placed → Bool) → (A → Reader A) → A → Reader A
repeat_at is_next step before tokens = steps_at is_next step (suc (length tokens)) before tokens

-- parses the production as long as another one is next, and appends what it gives to those in front
abbrev pub another_at : {A : Type 0} → Reader A → List A → Reader (List A)
another_at part front = part >>= λ x. done (front ++ x ∷ [])

abbrev pub each_at : {A : Type 0} → (List Placed → Bool) → Reader A → List A → Reader (List A)
each_at is_next part front = repeat_at is_next (another_at part) front

-- where another is next, a parser that succeeds takes at least one token
abbrev pub TakesSome : {A : Type 0} → (List Placed → Bool) → Reader A → Type 0
TakesSome {A} is_next part = (tokens : List Placed) (x : A × List Placed) → is_next tokens ≡ true → part tokens ≡ Ok x → length x.1 < length tokens
