-- Faults in calls of intrinsics. They may name another token than the first that does not fit, or depend on the one
-- behind it.
use Rattle.std.specs.Prelude.{◌≡◌, ◌↔◌, ℕ, List, [], ◌∷◌, ◌++◌, None, IsSome, codes}
use Rattle.ir_tokens.specs.declared.called.Identifier.TheVariants.{Named}
use Rattle.ir_tokens.specs.Identifiers.{identifier_of}
use Rattle.ir_tokens.specs.Numbers.{constant_of}
use Rattle.ir_tokens.specs.Tokens.{Token, Placed, Word, Number, Function, Group, Quoted, Mark}
use Rattle.refusal.specs.declared.fault.Fault.{Fault}
use Rattle.ir_tokens.specs.declared.fault.IrFaultKind.{IrFaultKind}
use Rattle.ir_tokens.specs.declared.fault.IrFaultKind.TheVariants.{Syntax, LeftOut, ConstRange}
use Rattle.ir_instructions.specs.declared.intrinsic.Intrinsic.{Intrinsic}
use Rattle.ir_instructions.specs.CallGrammar.{Items}
use Rattle.ir_instructions.specs.Intrinsics.{IsIntrinsicName}
use Rattle.ir_instructions.specs.Parts.{◌⨾◌}
use Rattle.ir_instructions.specs.PieceGrammar.{SpellsType}
use Rattle.ir_instructions.specs.Punctuation as marks
use Rattle.ir_viable_prefixes.specs.Fits.{Fits, FitsBehind, AttributesFit, own_line}

-- ---- callees

-- what is written for a function is the name of an intrinsic at a width
abbrev pub NamesIntrinsic : List ℕ → Type 0
NamesIntrinsic written = (name : List ℕ) × (named : Intrinsic × ℕ) × (identifier_of written ≡ Named name) × IsIntrinsicName name named

-- a function fits here, and only intrinsics do
pub record CalleeFits (front : List Placed) : Type 0 where
  pub one : List ℕ
  pub fits : FitsBehind front (Function one)
  pub alone : (other : List ℕ) → FitsBehind front (Function other) → NamesIntrinsic other

-- `=`, and the words up to `call`, which is on this line
pub data BeginsCall (line : ℕ) : List Placed → Type 0 where
  plain : (at : ℕ) → BeginsCall line ((at, Mark marks.equals) ∷ (line, Word (codes "call")) ∷ [])
  tail : (at on : ℕ) → BeginsCall line ((at, Mark marks.equals) ∷ (on, Word (codes "tail")) ∷ (line, Word (codes "call")) ∷ [])
  no_tail : (at on : ℕ) → BeginsCall line ((at, Mark marks.equals) ∷ (on, Word (codes "notail")) ∷ (line, Word (codes "call")) ∷ [])

-- the last tokens are the words that begin a call, and behind them its items and type
abbrev pub CallStands : ℕ → List Placed → Type 0
CallStands line front =
    (before call behind : List Placed) × (width : ℕ) × BeginsCall line call × (front ≡ before ++ (call ++ behind)) × (Items ⨾ SpellsType width) behind []

-- ---- values

-- a mark that ends an argument
pub data EndsArgument : Token → Type 0 where
  comma : EndsArgument (Mark marks.comma)
  close : EndsArgument (Mark marks.close_paren)

-- the end of an argument is next
abbrev pub BeginsWithEnd : List Placed → Type 0
BeginsWithEnd behind = (end : Placed) × (more : List Placed) × (behind ≡ end ∷ more) × EndsArgument end.1

-- the value fits, with the end of an argument behind it
abbrev pub ValueFits : List Placed → Token → Type 0
ValueFits front value = (end : Placed) × EndsArgument end.1 × Fits (front ++ (own_line, value) ∷ end ∷ [])

-- Why the last token before the end of an argument is no value of it. A number is out of range; a word is not
-- supported, but a syntax error where a truth value is expected, that is, where `undef` does not fit; a group and a
-- quoted text are syntax errors.
pub data IsNoValue (front : List Placed) : Token → IrFaultKind → Type 0 where
  number : (digits : List ℕ) (width : ℕ) → constant_of digits width ≡ None → ((other : List ℕ) → ValueFits front (Number other) ↔ IsSome (constant_of other width))
      → IsNoValue front (Number digits) ConstRange
  word : (word : List ℕ) → ValueFits front (Word (codes "undef")) → IsNoValue front (Word word) (LeftOut word)
  truth : (word : List ℕ) → ¬ ValueFits front (Word (codes "undef")) → IsNoValue front (Word word) Syntax
  group : (text : List ℕ) → IsNoValue front (Group text) Syntax
  quoted : (text : List ℕ) → IsNoValue front (Quoted text) Syntax

-- The fault in a call that is told of a token on a line which does not fit between these.
pub data IsToldInCall (front : List Placed) (behind : List Placed) : Placed → Fault IrFaultKind → Type 0 where
  -- a function that is no intrinsic: the fault is at the word `call`, which is not supported
  callee : (line at : ℕ) (written : List ℕ) → CalleeFits front → CallStands line front
      → IsToldInCall front behind (at, Function written) (record { line = line; kind = LeftOut (codes "call") })
  -- the end of an argument behind what is no value, where items and values may stand and no other end fits: the fault
  -- is there
  value : (before : List Placed) (line : ℕ) (last : Token) (end : Placed) (kind : IrFaultKind) → front ≡ before ++ (line, last) ∷ [] → EndsArgument end.1
      → ((other : Placed) → EndsArgument other.1 → ¬ Fits (front ++ other ∷ [])) → AttributesFit before → ValueFits before (Word (codes "true")) → IsNoValue before last kind
      → IsToldInCall front behind end (record { line = line; kind = kind })
  -- a word that is no item, directly before the end of an argument, where items and a truth value may stand
  truth : (line : ℕ) (word : List ℕ) → AttributesFit front → ValueFits front (Word (codes "true")) → ¬ ValueFits front (Word (codes "undef")) → BeginsWithEnd behind
      → IsToldInCall front behind (line, Word word) (record { line = line; kind = Syntax })
