-- what is known of the blocks so far
use Rattle.draft_bits.proofs.Common.{arena_of}
use Rattle.draft_bits.proofs.Made.{AreFactsSoFar}
use Rattle.draft_bits.proofs.bits.DraftBits.of.Given as goal

abbrev pub invariant-loop-block : goal.invariant-loop-block
invariant-loop-block l = AreFactsSoFar (arena_of l.draft) l.blocks.items l.block
