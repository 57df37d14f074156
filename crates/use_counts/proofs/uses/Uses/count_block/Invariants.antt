-- the places so far are counted
use Rattle.use_counts.proofs.Common.{IsBefore, AreCountsAmong}
use Rattle.use_counts.proofs.uses.Uses.count_block.Given as goal

abbrev pub invariant-loop-place : goal.invariant-loop-place
invariant-loop-place l = AreCountsAmong l.f (λ b k i. IsBefore b k i l.block l.place 0) l.self
