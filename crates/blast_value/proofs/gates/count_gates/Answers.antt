use Rattle.blast_value.proofs.Common.{◌≡◌, ◌+◌, ◌≤◌, arith, mul-le-mul_left, stages, stages-is}
use Rattle.blast_value.proofs.Counts.{digits-few}
use Rattle.blast_value.proofs.gates.count_gates.Goals as goal

pub overflow_mul-result : goal.overflow_mul-result
overflow_mul-result c =
    let is : c.ilog2-digits.result + 1 ≡ stages (c.args.width + 1) = stages-is (c.args.width + 1) c.ilog2-digits.result (omega arith) (omega arith) in
    let few : c.ilog2-digits.result + 1 ≤ 7 = omega (arith, digits-few c.args.width c.requires.most) in
    omega (arith, mul-le-mul_left c.args.width few)

pub returns-clause-value : goal.returns-clause-value
returns-clause-value c =
    let is : c.ilog2-digits.result + 1 ≡ stages (c.args.width + 1) = stages-is (c.args.width + 1) c.ilog2-digits.result (omega arith) (omega arith) in
    rw (← is) (omega arith)

pub returns-clause-few : goal.returns-clause-few
returns-clause-few c =
    let is : c.ilog2-digits.result + 1 ≡ stages (c.args.width + 1) = stages-is (c.args.width + 1) c.ilog2-digits.result (omega arith) (omega arith) in
    let few : c.ilog2-digits.result + 1 ≤ 7 = omega (arith, digits-few c.args.width c.requires.most) in
    omega (arith, mul-le-mul_left c.args.width few)
