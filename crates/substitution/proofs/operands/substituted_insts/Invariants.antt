use Rattle.substitution.proofs.Common.{stands_for, substituted_inst}
use Rattle.substitution.proofs.Mapping.{Mapped}
use Rattle.substitution.proofs.operands.substituted_insts.Given as goal

-- the instructions before the index are substituted
abbrev pub invariant-loop-inst : goal.invariant-loop-inst
invariant-loop-inst l = Mapped (substituted_inst (stands_for l.fn.rewrite)) l.fn.insts l.inst-index l.inst-items
