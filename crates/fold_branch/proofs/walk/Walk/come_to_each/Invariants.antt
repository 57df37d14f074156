use Rattle.fold_branch.proofs.Common.{take, ComesTo}
use Rattle.fold_branch.proofs.walk.Walk.come_to_each.Given as goal

-- the walk has come to the blocks before the index
abbrev pub invariant-loop-block : goal.invariant-loop-block
invariant-loop-block l = ComesTo (take l.block-index l.blocks) l.initial.self l.self
