use Rattle.ir_resolve.proofs.Common.{take, IsFirst, SomeAt, BlockClashesAt}
use Rattle.ir_resolve.proofs.types.block_clash.Given as goal

abbrev pub invariant-loop-block : goal.invariant-loop-block
invariant-loop-block l = IsFirst (SomeAt (take l.block-index l.blocks) (BlockClashesAt l.returned)) l.found
