use Rattle.ir_resolve.proofs.Common.{subst, arith, flat_map, on_ok_weaker, Adds}
use Rattle.ir_resolve.proofs.Adding.{adds_none, adds_then, adds_more, adds_all, flat_map_push, read_by_inst, named_by_inst}
use Rattle.ir_resolve.proofs.uses.Uses.add_block.Goals as goal

pub loop-inst-init : goal.loop-inst-init
loop-inst-init c = adds_none c.args.self.now

pub loop-inst-preserved : goal.loop-inst-preserved
loop-inst-preserved c =
    adds_more (flat_map read_by_inst) read_by_inst (flat_map named_by_inst) named_by_inst (flat_map_push read_by_inst) (flat_map_push named_by_inst) c.as_slice-inst-items.result.now c.loop-inst.inst-index c.inst-item.result _ _ _ (omega arith) c.inst-item.is c.loop-inst.invariant c.in_ok-add_op.ensures

pub returns : goal.returns
returns c =
    let insts = adds_all (flat_map read_by_inst) (flat_map named_by_inst) c.as_slice-inst-items.result.now c.loop-inst.inst-index _ _ (omega arith) c.loop-inst.invariant in
    let insts' = subst (λ is. Adds c.args.self.now c.loop-inst.self (flat_map read_by_inst is) (flat_map named_by_inst is)) c.as_slice-inst-items.ensures insts in
    on_ok_weaker c.add_end.result (λ end. adds_then _ _ _ _ _ _ _ insts' end) c.add_end.ensures
