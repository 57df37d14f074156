use Rattle.needed.proofs.Matching.{cleaned_refines}
use Rattle.needed.proofs.Checking.{cleaned_meets}
use Rattle.needed.proofs.laws.every_cleaned_function_refines_the_old.Goals as goal

pub returns-clause-refines : goal.returns-clause-refines
returns-clause-refines c = cleaned_refines

pub returns-clause-checks : goal.returns-clause-checks
returns-clause-checks c = cleaned_meets
