use Rattle.scan.proofs.LawLemmas.{one_token}
use Rattle.scan.proofs.laws.every_place_has_one_rule_token.Goals as goal

pub returns : goal.returns
returns c = one_token
