use Rattle.ir_printer.proofs.Identified.{Adds-more}
use Rattle.ir_printer.proofs.identifiers.add_results.Goals as goal

pub loop-inst-preserved : goal.loop-inst-preserved
loop-inst-preserved c = record {
  adds = Adds-more (λ i. i.name) c.args.next_number c.args.insts.now c.loop-inst.inst-index c.inst-item.result _ _ _ _ _ c.loop-inst-test.true c.inst-item.is c.loop-inst.invariant.adds c.in_ok-next_number.ensures.adds;
  counted = c.in_ok-next_number.ensures.counted;
}
