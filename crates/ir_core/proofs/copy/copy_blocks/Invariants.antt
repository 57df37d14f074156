-- the copies so far are those of the first blocks
use Rattle.std.proofs.Common.{◌≡◌, take}
use Rattle.ir_core.proofs.copy.copy_blocks.Given as goal

abbrev pub invariant-loop-block : goal.invariant-loop-block
invariant-loop-block l = l.copies ≡ take l.block-index l.block-items
