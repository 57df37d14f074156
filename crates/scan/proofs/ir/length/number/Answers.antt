use Rattle.scan.proofs.ModuleFronts.{number_some, number_none}
use Rattle.scan.proofs.ir.length.number.Goals as goal

pub returns-then-number-run : goal.returns-then-number-run
returns-then-number-run c = number_some c.args.text.now c.name_run-run.result c.number.result c.name_run-run.ensures.value c.if-number-run.true c.number.ensures

pub returns-else-number-run : goal.returns-else-number-run
returns-else-number-run c = number_none c.args.text.now c.name_run-run.result c.number.result c.name_run-run.ensures.value c.if-number-run.false c.number.ensures
