use Rattle.alive_top.proofs.Reading.{read_rules}
use Rattle.alive_top.proofs.work.verified.Goals as goal

pub verify-requires-clause-rules : goal.verify-requires-clause-rules
verify-requires-clause-rules c = read_rules c.args.rules.now c.requires.ready
