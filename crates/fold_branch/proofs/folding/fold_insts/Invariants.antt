use Rattle.fold_branch.proofs.Common.{map, Written, folded_inst, NoneIsMarked}
use Rattle.fold_branch.proofs.folding.fold_insts.Given as goal

-- the instructions before the index are folded
abbrev pub invariant-loop-inst : goal.invariant-loop-inst
invariant-loop-inst l = record {
  written : Written (λ i insts. map (folded_inst l.plan.choices.items l.plan.reached.items l.block) insts) l.fn.insts l.inst-index l.inst-items;
  unmarked : NoneIsMarked l.marks;
}
