use Rattle.alive_top.proofs.Reading.{ready_at}
use Rattle.alive_top.proofs.by_logs.logs_of.Goals as goal

pub read_stored-requires-clause-classes : goal.read_stored-requires-clause-classes
read_stored-requires-clause-classes c = λ k d within. (ready_at c.args.rules.now c.requires.ready k d within).classes
