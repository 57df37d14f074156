use Rattle.ir_printer.proofs.Identified.{Adds-more}
use Rattle.ir_printer.proofs.identifiers.add_parameters.Goals as goal

pub loop-parameter-preserved : goal.loop-parameter-preserved
loop-parameter-preserved c = record {
  adds = Adds-more (λ p. p.name) 0 c.args.parameters.now c.loop-parameter.parameter-index c.parameter-item.result _ _ _ _ _ c.loop-parameter-test.true c.parameter-item.is c.loop-parameter.invariant.adds c.in_ok-next_number.ensures.adds;
  counted = c.in_ok-next_number.ensures.counted;
}
