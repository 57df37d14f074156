use Rattle.ops.proofs.Common.{◌≤◌, arith}
use Rattle.ops.proofs.BitCounts.{cttz-trailing}
use Rattle.ops.proofs.counts.cttz.Goals as goal

pub returns-clause-count : goal.returns-clause-count
returns-clause-count c =
    let few : c.args.width ≤ 64 = omega (arith, c.bits.ensures.at_most_64, c.bits.ensures.bits) in
    omega (arith, c.from.ensures, c.min.ensures, c.bits.ensures.bits, cttz-trailing c.args.width 64 c.args.a few)
