use Rattle.blast_value.proofs.Common.{◌≡◌, ◌+◌, arith, stages-none, stages-is, stages}
use Rattle.blast_value.proofs.Counts.{stages-few}
use Rattle.blast_value.proofs.gates.stage_count.Goals as goal

pub returns-then-width-le1-clause-stages : goal.returns-then-width-le1-clause-stages
returns-then-width-le1-clause-stages c = stages-none c.args.width c.if-width-le1.true

pub returns-else-width-le1-clause-stages : goal.returns-else-width-le1-clause-stages
returns-else-width-le1-clause-stages c = stages-is c.args.width c.ilog2.result (omega arith) (omega arith)

pub returns-else-width-le1-clause-few : goal.returns-else-width-le1-clause-few
returns-else-width-le1-clause-few c =
    let is : c.ilog2.result + 1 ≡ stages c.args.width = stages-is c.args.width c.ilog2.result (omega arith) (omega arith) in
    omega (arith, stages-few c.args.width c.requires)
