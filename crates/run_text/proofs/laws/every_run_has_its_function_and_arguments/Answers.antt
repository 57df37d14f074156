use Rattle.run_text.proofs.Misnaming.{not_misnamed}
use Rattle.run_text.proofs.laws.every_run_has_its_function_and_arguments.Goals as goal

pub returns : goal.returns
returns c = not_misnamed c.every_text_has_one_module_or_one_fault.ensures
