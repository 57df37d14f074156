use Rattle.ir_reader.proofs.Answered.{answer_meets}
use Rattle.ir_reader.proofs.reader.read_module.Goals as goal

pub returns-clause-checks : goal.returns-clause-checks
returns-clause-checks c = answer_meets c.args.bytes.now c.module_of.result c.module_of.ensures.ok
