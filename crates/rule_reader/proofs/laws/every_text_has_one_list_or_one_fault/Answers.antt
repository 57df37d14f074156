use Rattle.rule_reader.proofs.LawLemmas.{one_list_or_fault}
use Rattle.rule_reader.proofs.laws.every_text_has_one_list_or_one_fault.Goals as goal

pub returns : goal.returns
returns c = one_list_or_fault c.every_text_has_one_reading_or_one_fault.ensures c.every_rule_has_classes.ensures
