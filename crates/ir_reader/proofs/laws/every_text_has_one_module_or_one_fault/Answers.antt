use Rattle.ir_reader.proofs.LawLemmas.{one_module_or_fault}
use Rattle.ir_reader.proofs.laws.every_text_has_one_module_or_one_fault.Goals as goal

pub returns : goal.returns
returns c = one_module_or_fault c.every_text_has_one_reading_or_one_fault.ensures c.every_function_has_one_meaning_or_one_fault.ensures
