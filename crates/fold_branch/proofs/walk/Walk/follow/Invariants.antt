use Rattle.fold_branch.proofs.Common.{◌+◌, length, IsWalked, unmarked}
use Rattle.fold_branch.proofs.walk.Walk.follow.Given as goal

abbrev pub invariant-loop-block : goal.invariant-loop-block
invariant-loop-block l = IsWalked l.f l.self

-- each block is work once
abbrev pub decreases-loop-block : goal.decreases-loop-block
decreases-loop-block l = unmarked l.self + length l.self.work.items
