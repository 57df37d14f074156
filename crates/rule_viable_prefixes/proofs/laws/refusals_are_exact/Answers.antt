use Rattle.rule_viable_prefixes.proofs.Exact.{exact}
use Rattle.rule_viable_prefixes.proofs.laws.refusals_are_exact.Goals as goal

pub returns : goal.returns
returns c = exact c.every_place_has_one_rule_token.ensures
