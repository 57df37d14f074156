use Rattle.rule_parse.proofs.Files.{all_rules-is, all_rules-of}
use Rattle.rule_parse.proofs.laws.rules_are_read_as_they_are_spelled.Goals as goal

pub returns : goal.returns
returns c = λ limits last tokens raws. (all_rules-is limits last tokens raws, all_rules-of limits last raws tokens)
