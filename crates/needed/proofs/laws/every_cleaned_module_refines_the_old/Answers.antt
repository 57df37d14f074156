use Rattle.needed.proofs.Modules.{modules_refine, modules_meet}
use Rattle.needed.proofs.laws.every_cleaned_module_refines_the_old.Goals as goal

pub returns-clause-refines : goal.returns-clause-refines
returns-clause-refines c = modules_refine

pub returns-clause-checks : goal.returns-clause-checks
returns-clause-checks c = modules_meet
