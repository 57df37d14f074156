-- How a module is written canonically: each identifier is the name of what it refers to or its number in the series,
-- each operand stands at the width at which it is read, and everything else is as it is in the module. The lines are
-- free.
use Rattle.std.specs.Prelude.{◌≡◌, ℕ, suc, Some, IsSome, All, slice_get}
use Rattle.std.specs.List.{AllZip}
use Rattle.ir_tokens.specs.declared.called.Identifier.{Identifier}
use Rattle.ir_resolve.specs.Identifiers.{identifiers_of, identifier_of}
use Rattle.ir_core.specs.declared.module.Module.{Module}
use Rattle.ir_core.specs.declared.module.Entry.{Entry}
use Rattle.ir_core.specs.declared.module.Entry.TheVariants as entries
use Rattle.ir_core.specs.declared.function.Function.{Function}
use Rattle.ir_tokens.specs.declared.raw.RawModule.{RawModule}
use Rattle.ir_tokens.specs.declared.raw.RawEntry.{RawEntry}
use Rattle.ir_tokens.specs.declared.raw.RawEntry.TheVariants as raw_entries
use Rattle.ir_tokens.specs.declared.raw.RawFunction.{RawFunction}
use Rattle.ir_tokens.specs.declared.raw.RawBlock.{RawBlock}
use Rattle.ir_tokens.specs.declared.raw.RawIdentifier.{RawIdentifier}
use Rattle.ir_tokens.specs.declared.raw.RawOp.{RawOp}
use Rattle.ir_tokens.specs.declared.raw.RawOp.TheVariants as ops
use Rattle.ir_tokens.specs.declared.raw.RawTerminator.{RawTerminator}
use Rattle.ir_tokens.specs.declared.raw.RawTerminator.TheVariants as terminators
use Rattle.ir_resolve.specs.FaultKinds.{CallFits}
use Rattle.ir_resolve.specs.Means.{MeansBy}
use Rattle.ir_resolve.specs.Written.{Thing, Value, Block, given, written_names}
use Rattle.ir_text.specs.PrintedText.{block_identifier}

-- the identifier is that of the thing in the function
abbrev pub Identifies : Function → Identifier → Thing → Type 0
Identifies f x (Value r) = identifier_of f r ≡ Some x
Identifies f x (Block b) = block_identifier f b ≡ Some x

-- types that are written in an instruction for one and the same type are equal
abbrev pub TypesFit : RawOp → Type 0
TypesFit (ops.Select c a b) = (c.width ≡ 1) × (b.width ≡ a.width)
TypesFit (ops.Call call) = CallFits call
TypesFit (ops.Binary op flags width a b) = Unit {0}
TypesFit (ops.Compare pred samesign width a b) = Unit {0}
TypesFit (ops.Convert cast flags from a to) = Unit {0}
TypesFit (ops.Freeze width a) = Unit {0}
TypesFit (ops.Phi width incoming) = Unit {0}

-- the same for a terminator, in a function that returns this width
abbrev pub EndTypesFit : ℕ → RawTerminator → Type 0
EndTypesFit returned (terminators.Return width a) = width ≡ returned
EndTypesFit returned (terminators.Branch width c to other) = width ≡ 1
EndTypesFit returned (terminators.Switch width a other cases) = All (λ c. c.width ≡ width) cases
EndTypesFit returned (terminators.Jump to) = Unit {0}
EndTypesFit returned terminators.Unreachable = Unit {0}

abbrev pub BlockTypesFit : ℕ → RawBlock → Type 0
BlockTypesFit returned block = All (λ i. TypesFit i.op) block.insts × EndTypesFit returned block.end

-- the function is written canonically
pub record WritesFunction (raw : RawFunction) (f : Function) : Type 0 where
  pub means : MeansBy (Identifies f) raw f
  -- what is written for a thing, in text order, is its identifier
  pub names : (p : ℕ) (w : RawIdentifier) → slice_get (written_names raw) p ≡ Some (Some w) → slice_get (identifiers_of f) p ≡ Some w.identifier
  -- each parameter is written with its register, and each block with its label, the first only where it has a name
  pub registers : All (λ p. IsSome p.name) raw.parameters
  pub first_label : (block : RawBlock) → slice_get raw.blocks 0 ≡ Some block → IsSome block.label → IsSome (given block.label)
  pub labels : (b : ℕ) (block : RawBlock) → slice_get raw.blocks (suc b) ≡ Some block → IsSome block.label
  pub types : All (BlockTypesFit raw.width) raw.blocks

-- a kept line is written as it is, and a function canonically
abbrev pub WritesEntry : RawEntry → Entry → Type 0
WritesEntry (raw_entries.Kept written) (entries.Kept line) = line ≡ written
WritesEntry (raw_entries.Function raw) (entries.Function f) = WritesFunction raw f
WritesEntry (raw_entries.Kept written) (entries.Function f) = ⊥
WritesEntry (raw_entries.Function raw) (entries.Kept line) = ⊥

-- the module is written canonically, entry by entry
abbrev pub WritesModule : RawModule → Module → Type 0
WritesModule raw m = AllZip WritesEntry raw.entries m.entries
