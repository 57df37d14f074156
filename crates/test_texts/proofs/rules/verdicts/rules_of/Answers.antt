use Rattle.test_texts.proofs.Reading.{read_rules}
use Rattle.test_texts.proofs.rules.verdicts.rules_of.Goals as goal

pub returns-in-Ok : goal.returns-in-Ok
returns-in-Ok c = read_rules c.in-Ok.rules.items c.in-Ok.ensures.rules c.in-Ok.ensures.classes
