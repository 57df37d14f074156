use Rattle.rule_parse.proofs.Counts.{kept_up_to_the_limit}
use Rattle.rule_parse.proofs.laws.tokens_are_kept_up_to_the_limit.Goals as goal

pub returns : goal.returns
returns c = kept_up_to_the_limit
