-- the blocks so far are counted
use Rattle.use_counts.proofs.Common.{IsBefore, AreCountsAmong}
use Rattle.use_counts.proofs.counting.count_uses.Given as goal

abbrev pub invariant-loop-block : goal.invariant-loop-block
invariant-loop-block l = AreCountsAmong l.f (λ b k i. IsBefore b k i l.block 0 0) l.uses
