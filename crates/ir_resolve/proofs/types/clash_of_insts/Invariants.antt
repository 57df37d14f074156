use Rattle.ir_resolve.proofs.Common.{take, IsFirst, SomeAt, OpClashesAt}
use Rattle.ir_resolve.proofs.types.clash_of_insts.Given as goal

abbrev pub invariant-loop-inst : goal.invariant-loop-inst
invariant-loop-inst l = IsFirst (SomeAt (take l.inst-index l.insts) (λ i. OpClashesAt i.op)) l.found
