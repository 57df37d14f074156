use Rattle.alive_top.proofs.Reading.{read_rules}
use Rattle.alive_top.proofs.recheck.rechecked.Goals as goal

pub recheck-requires-clause-rules : goal.recheck-requires-clause-rules
recheck-requires-clause-rules c = read_rules c.args.rules.now c.requires.ready
