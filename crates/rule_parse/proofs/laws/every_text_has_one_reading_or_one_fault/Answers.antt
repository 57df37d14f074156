use Rattle.rule_parse.proofs.Verdicts.{texts}
use Rattle.rule_parse.proofs.laws.every_text_has_one_reading_or_one_fault.Goals as goal

pub returns : goal.returns
returns c = texts c.every_place_has_one_rule_token.ensures
