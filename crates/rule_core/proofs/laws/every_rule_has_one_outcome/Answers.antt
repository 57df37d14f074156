use Rattle.rule_core.proofs.Outcomes.{one_outcome}
use Rattle.rule_core.proofs.laws.every_rule_has_one_outcome.Goals as goal

pub returns : goal.returns
returns c = one_outcome
