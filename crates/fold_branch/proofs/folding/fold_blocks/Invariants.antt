use Rattle.fold_branch.proofs.Common.{Written, folded_blocks, NoneIsMarked}
use Rattle.fold_branch.proofs.folding.fold_blocks.Given as goal

-- the blocks before the index are folded
abbrev pub invariant-loop-index : goal.invariant-loop-index
invariant-loop-index l = record {
  written : Written (folded_blocks l.plan.choices.items l.plan.reached.items) l.fn.blocks l.index l.block-items;
  unmarked : NoneIsMarked l.marks;
}
