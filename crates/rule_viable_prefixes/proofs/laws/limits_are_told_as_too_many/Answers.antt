use Rattle.rule_viable_prefixes.proofs.Exact.{texts_refused}
use Rattle.rule_viable_prefixes.proofs.LimitLaws.{wider_change}
use Rattle.rule_viable_prefixes.proofs.laws.limits_are_told_as_too_many.Goals as goal

pub returns-clause-wider : goal.returns-clause-wider
returns-clause-wider c = wider_change

pub returns-clause-texts : goal.returns-clause-texts
returns-clause-texts c = texts_refused c.every_place_has_one_rule_token.ensures
