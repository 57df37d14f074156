use Rattle.ir_viable_prefixes.proofs.Refusals.{faults}
use Rattle.ir_viable_prefixes.proofs.laws.faults_are_where_texts_do_not_fit.Goals as goal

pub returns : goal.returns
returns c = faults c.modules_are_read_as_they_are_spelled.ensures c.every_text_has_one_list_of_tokens.ensures
