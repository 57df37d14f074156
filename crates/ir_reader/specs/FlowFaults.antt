-- The kinds of faults that a function may have once it is resolved, each with the lines on which it has one. The line
-- is that of what is written there.
use Rattle.std.specs.Prelude.{◌≡◌, ℕ, Some, slice_get}
use Rattle.ir_core.specs.Assigned.{IsFirstUnassigned}
use Rattle.ir_core.specs.declared.operand.Register.{Register}
use Rattle.ir_tokens.specs.declared.called.Identifier.{Identifier}
use Rattle.ir_tokens.specs.declared.raw.RawValue.TheVariants as values
use Rattle.ir_resolve.specs.TypedReads.{Typed}
use Rattle.refusal.specs.declared.fault.Fault.{Fault}
use Rattle.ir_tokens.specs.declared.fault.IrFaultKind.{IrFaultKind}
use Rattle.ir_tokens.specs.declared.fault.IrFaultKind.TheVariants as kinds
use Rattle.ir_reader.specs.Operands.{written_at}
use Rattle.ir_core.specs.declared.function.Function.{Function}
use Rattle.ir_core.specs.declared.instruction.Inst.{Inst}
use Rattle.ir_core.specs.Blocks.{Names}
use Rattle.ir_core.specs.Checks.{IsInst}
use Rattle.ir_tokens.specs.declared.raw.RawFunction.{RawFunction}
use Rattle.ir_tokens.specs.declared.raw.RawBlock.{RawBlock}
use Rattle.ir_tokens.specs.declared.raw.RawInst.{RawInst}
use Rattle.ir_resolve.specs.Written.{IsWrittenInst}
use Rattle.ir_reader.specs.Phis.{OpFits}

-- BadPhi: instruction k of block b is a phi that doesn't fit, and its register is on the line
abbrev pub BadPhiHere : RawFunction → Function → ℕ → ℕ → ℕ → Type 0
BadPhiHere raw f b k line =
    ((inst : Inst) × IsInst f b k inst × ¬ OpFits f b k inst.op)
    × ((written : RawInst) × IsWrittenInst raw b k written × (written.result.line ≡ line))

abbrev pub BadPhiAt : RawFunction → Function → ℕ → Type 0
BadPhiAt raw f line = (b : ℕ) × (k : ℕ) × BadPhiHere raw f b k line

-- EntryPred: the terminator of block b names the first block, and its first word is on the line
abbrev pub EntryPredHere : RawFunction → Function → ℕ → ℕ → Type 0
EntryPredHere raw f b line = Names f b 0 × ((block : RawBlock) × (slice_get raw.blocks b ≡ Some block) × (block.end_line ≡ line))

abbrev pub EntryPredAt : RawFunction → Function → ℕ → Type 0
EntryPredAt raw f line = (b : ℕ) × EntryPredHere raw f b line

-- Unassigned: the first register that isn't assigned where it is read, by the identifier that is written there, on the
-- line of that operand, and with the block in which it is written
pub record IsUnassignedFault (raw : RawFunction) (f : Function) (fault : Fault IrFaultKind) : Type 0 where
  pub register : Register
  pub b : ℕ
  pub k : ℕ
  pub i : ℕ
  pub first : IsFirstUnassigned f register b k i
  pub operand : Typed
  pub is_written : slice_get (written_at raw b k) i ≡ Some operand
  pub name : Identifier
  pub is_named : operand.operand.value ≡ values.Register name
  pub is_fault : fault ≡ record { line = operand.operand.line; kind = kinds.Unassigned name b }
