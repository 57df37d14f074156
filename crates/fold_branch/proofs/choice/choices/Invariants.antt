use Rattle.fold_branch.proofs.Common.{◌≡◌, map, take, chosen}
use Rattle.fold_branch.proofs.choice.choices.Given as goal

-- the choices of the blocks before the index
abbrev pub invariant-loop-block : goal.invariant-loop-block
invariant-loop-block l = l.choices.items ≡ map (λ block. chosen block.end) (take l.block-index l.block-items)
