-- The checks of `IsFormed` in `ir_core` that follow from resolving names, types and cases, for a function that is
-- written as the grammar has it.
use Rattle.std.specs.Prelude.{◌≡◌, ℕ, ◌<◌, length, is_some, Contains}
use Rattle.ops.specs.Flags.{FlagsFit, CastFlagsFit}
use Rattle.ops.specs.Truths.{has_truth}
use Rattle.ir_core.specs.declared.function.Function.{Function}
use Rattle.ir_core.specs.declared.function.Block.{Block}
use Rattle.ir_core.specs.declared.instruction.Inst.{Inst}
use Rattle.ir_core.specs.Blocks.{IsBlock, Names}
use Rattle.ir_core.specs.Checks.{NamesDiffer, IsKnown, OperandHasWidth, IsInst, IsTyped, CasesFit}
use Rattle.ir_core.specs.Names.{names_of}
use Rattle.ir_core.specs.Reads.{Read, IsRead}
use Rattle.ir_tokens.specs.declared.raw.RawFunction.{RawFunction}
use Rattle.ir_tokens.specs.declared.raw.RawBlock.{RawBlock}
use Rattle.ir_tokens.specs.declared.raw.RawInst.{RawInst}
use Rattle.ir_tokens.specs.declared.raw.RawArguments.{RawArguments}
use Rattle.ir_tokens.specs.declared.raw.RawArguments.TheVariants as arguments
use Rattle.ir_tokens.specs.declared.raw.RawOp.{RawOp}
use Rattle.ir_tokens.specs.declared.raw.RawOp.TheVariants.{Binary, Compare, Call, Select, Convert, Freeze, Phi}

-- a call has a truth value exactly if its intrinsic takes one
abbrev pub IsWellWrittenCall : RawArguments → Type 0
IsWellWrittenCall (arguments.Binary op a b) = Unit {0}
IsWellWrittenCall (arguments.Unary op a truth) = is_some truth ≡ has_truth op

-- an operation has only flags that it takes, a call a truth value if its intrinsic takes one, and a phi at least one
-- entry
abbrev pub IsWellWrittenOp : RawOp → Type 0
IsWellWrittenOp (Binary op flags width a b) = FlagsFit op flags
IsWellWrittenOp (Compare pred samesign width a b) = Unit {0}
IsWellWrittenOp (Call call) = IsWellWrittenCall call.arguments
IsWellWrittenOp (Select c a b) = Unit {0}
IsWellWrittenOp (Convert cast flags from a to) = CastFlagsFit cast flags
IsWellWrittenOp (Freeze width a) = Unit {0}
IsWellWrittenOp (Phi width incoming) = 0 < length incoming

-- the function has at least one block, and its operations are written so
pub record IsWellWritten (raw : RawFunction) : Type 0 where
  pub some_block : 0 < length raw.blocks
  pub insts : (block : RawBlock) (inst : RawInst) → Contains raw.blocks block → Contains block.insts inst → IsWellWrittenOp inst.op

-- the checks of a function that are about names, widths and cases
pub record IsWellNamed (f : Function) : Type 0 where
  pub some_block : 0 < length f.blocks
  pub names : NamesDiffer (names_of f)
  pub registers : (b k i : ℕ) (r : Read) → IsRead f b k i r → IsKnown f r.operand
  pub blocks : (b c : ℕ) → Names f b c → c < length f.blocks
  pub operands : (b k i : ℕ) (r : Read) → IsRead f b k i r → OperandHasWidth f r.width r.operand
  pub insts : (b k : ℕ) (inst : Inst) → IsInst f b k inst → IsTyped inst.width inst.op
  pub cases : (b : ℕ) (block : Block) → IsBlock f b block → CasesFit block.end
