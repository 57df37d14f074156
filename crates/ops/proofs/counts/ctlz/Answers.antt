use Rattle.ops.proofs.Common.{◌≤◌, arith}
use Rattle.ops.proofs.BitCounts.{ctlz-leading, leading_of_fewer}
use Rattle.ops.proofs.counts.ctlz.Goals as goal

pub overflow_sub-a : goal.overflow_sub-a
overflow_sub-a c =
    let few : c.args.width ≤ 64 = omega (arith, c.bits-above.ensures.at_most_64, c.bits-above.ensures.bits) in
    omega (arith, leading_of_fewer c.args.width 64 c.args.a few c.requires, c.bits-above.ensures.bits)

pub returns-clause-count : goal.returns-clause-count
returns-clause-count c =
    let few : c.args.width ≤ 64 = omega (arith, c.bits-above.ensures.at_most_64, c.bits-above.ensures.bits) in
    omega (arith, c.from.ensures, leading_of_fewer c.args.width 64 c.args.a few c.requires, ctlz-leading c.args.width c.args.a c.requires, c.bits-above.ensures.bits)
