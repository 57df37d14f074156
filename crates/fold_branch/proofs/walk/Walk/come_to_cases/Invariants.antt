use Rattle.fold_branch.proofs.Common.{take, ComesTo}
use Rattle.fold_branch.proofs.Walking.{blocks_of}
use Rattle.fold_branch.proofs.walk.Walk.come_to_cases.Given as goal

-- the walk has come to the blocks of the cases before the index
abbrev pub invariant-loop-case : goal.invariant-loop-case
invariant-loop-case l = ComesTo (blocks_of (take l.case-index l.cases)) l.initial.self l.self
