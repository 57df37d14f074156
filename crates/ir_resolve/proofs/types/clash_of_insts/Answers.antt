use Rattle.ir_resolve.proofs.Common.{arith, OpClashesAt}
use Rattle.ir_resolve.proofs.Firsts.{first_more, first_all}
use Rattle.ir_resolve.proofs.types.clash_of_insts.Goals as goal

pub loop-inst-preserved : goal.loop-inst-preserved
loop-inst-preserved c = first_more (λ i. OpClashesAt i.op) c.args.insts.now c.loop-inst.inst-index c.inst-item.result _ _ _ (omega arith) c.inst-item.is c.loop-inst.invariant c.op_clash.ensures c.lesser-found.ensures

pub returns : goal.returns
returns c = first_all (λ i. OpClashesAt i.op) c.args.insts.now _ _ (omega arith) c.loop-inst.invariant
