use Rattle.ir_printer.proofs.Common.{rules, length, ◌<◌, ◌^◌, subst, arith, HasFewNames}
use Rattle.ir_printer.proofs.Identified.{few_names}
use Rattle.ir_printer.proofs.module.push_function.Goals as goal

pub returns-clause-few : goal.returns-clause-few
returns-clause-few c =
    let called = c.in_ok-called.called in
    let kept : length called.in_order.items < 2 ^ 64 = omega (arith, called.in_order.ok, called.in_order.small) in
    let few : HasFewNames c.args.function.now = subst HasFewNames c.in_ok-called.ensures (few_names called.function.now called.in_order.items called.all_identifiers kept) in
    search rules
