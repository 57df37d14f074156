use Rattle.rule_matches.proofs.Ordering.{before_stand_first}
use Rattle.rule_matches.proofs.laws.matches_before_stand_first.Goals as goal

pub returns : goal.returns
returns c = before_stand_first
