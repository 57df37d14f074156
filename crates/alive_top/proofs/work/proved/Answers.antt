use Rattle.alive_top.proofs.Reading.{read_rules}
use Rattle.alive_top.proofs.work.proved.Goals as goal

pub prove_rules-requires-clause-rules : goal.prove_rules-requires-clause-rules
prove_rules-requires-clause-rules c = read_rules c.args.rules.now c.requires.ready
