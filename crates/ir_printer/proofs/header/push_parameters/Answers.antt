use Rattle.ir_printer.proofs.Common.{◌++◌, ap, ◌∙◌, codes, join_by, parameter_text}
use Rattle.ir_printer.proofs.Printed.{join_placed_more, take_placed}
use Rattle.ir_printer.proofs.header.push_parameters.Goals as goal

pub loop-place-preserved : goal.loop-place-preserved
loop-place-preserved c =
    join_placed_more (parameter_text c.args.called.now.function.now) (codes ", ") c.args.out.now.items _ _ c.args.parameters.now c.loop-place.place c.index-parameters-place.result c.loop-place-test.true c.index-parameters-place.is c.loop-place.invariant c.in_ok-push_parameter.ensures

pub returns : goal.returns
returns c = c.loop-place.invariant ∙ ap (λ xs. c.args.out.now.items ++ join_by (parameter_text c.args.called.now.function.now) (codes ", ") xs) (take_placed c.args.parameters.now c.loop-place.place c.loop-place-test.false)
