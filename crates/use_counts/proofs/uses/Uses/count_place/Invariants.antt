-- the operands so far are counted
use Rattle.use_counts.proofs.Common.{IsBefore, AreCountsAmong}
use Rattle.use_counts.proofs.uses.Uses.count_place.Given as goal

abbrev pub invariant-loop-index : goal.invariant-loop-index
invariant-loop-index l = AreCountsAmong l.f (λ b k i. IsBefore b k i l.block l.place l.index) l.self
