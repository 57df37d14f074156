-- Which fault of a function as written is its first.
use Rattle.std.specs.Prelude.{◌↔◌, ℕ, ◌<◌, Bool, IsTrue, List}
use Rattle.ir_tokens.specs.declared.raw.RawFunction.{RawFunction}
use Rattle.refusal.specs.declared.fault.Fault.{Fault}
use Rattle.ir_tokens.specs.declared.fault.IrFaultKind.{IrFaultKind}
use Rattle.ir_tokens.specs.declared.fault.IrFaultKind.TheVariants.{Numbering, Duplicate, Unknown, TypeClash}
use Rattle.ir_resolve.specs.FirstLines.{IsFirstLine}
use Rattle.ir_resolve.specs.FaultKinds.{NumberingAt, HasNameOf, DuplicateAt, UnknownAt, TypeClashAt}

-- the order of the kinds that a function as written may have: how many come before
abbrev pub rank : IrFaultKind → ℕ
rank Numbering = 0
rank Duplicate = 1
rank Unknown = 2
rank TypeClash = 3
rank other = 4

-- a function as written has a fault of the kind on the line, if these functions stand before it
abbrev pub HasFaultAt : List RawFunction → RawFunction → IrFaultKind → ℕ → Type 0
HasFaultAt earlier raw Numbering = NumberingAt raw
HasFaultAt earlier raw Duplicate = DuplicateAt earlier raw
HasFaultAt earlier raw Unknown = UnknownAt raw
HasFaultAt earlier raw TypeClash = TypeClashAt raw
HasFaultAt earlier raw other = λ line. ⊥

abbrev pub HasNoFault : List RawFunction → RawFunction → Type 0
HasNoFault earlier raw = (kind : IrFaultKind) (line : ℕ) → ¬ HasFaultAt earlier raw kind line

-- the first fault of a function: of the first kind that it has, on the first line
pub record IsFirstNameFault (earlier : List RawFunction) (raw : RawFunction) (fault : Fault IrFaultKind) : Type 0 where
  pub line : IsFirstLine (HasFaultAt earlier raw fault.kind) fault.line
  pub first : (kind : IrFaultKind) (line : ℕ) → rank kind < rank fault.kind → ¬ HasFaultAt earlier raw kind line

-- the mark is true exactly if one of the earlier functions has the function's name
abbrev pub MarksFunction : Bool → List RawFunction → RawFunction → Type 0
MarksFunction is_repeated earlier raw = IsTrue is_repeated ↔ HasNameOf earlier raw.name
