use Rattle.rule_parse.proofs.Weight.{small_rules}
use Rattle.rule_parse.proofs.laws.written_rules_are_small.Goals as goal

pub returns : goal.returns
returns c = small_rules
