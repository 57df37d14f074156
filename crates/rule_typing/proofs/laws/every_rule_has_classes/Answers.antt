use Rattle.rule_typing.proofs.Existing.{rules_have_classes}
use Rattle.rule_typing.proofs.laws.every_rule_has_classes.Goals as goal

pub returns : goal.returns
returns c = rules_have_classes
