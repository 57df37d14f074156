use Rattle.ir_parse.proofs.Verdicts.{texts}
use Rattle.ir_parse.proofs.laws.every_text_has_one_reading_or_one_fault.Goals as goal

pub returns : goal.returns
returns c = texts c.every_text_has_one_list_of_tokens.ensures
