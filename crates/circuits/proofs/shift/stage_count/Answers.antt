use Rattle.circuits.proofs.Common.{arith}
use Rattle.circuits.proofs.Stages.{stages-none, stages-is}
use Rattle.circuits.proofs.shift.stage_count.Goals as goal

pub returns-then-width-le1 : goal.returns-then-width-le1
returns-then-width-le1 c = stages-none c.args.width (omega arith)

pub returns-else-width-le1 : goal.returns-else-width-le1
returns-else-width-le1 c = stages-is c.args.width c.ilog2.result (omega arith) (omega arith)
