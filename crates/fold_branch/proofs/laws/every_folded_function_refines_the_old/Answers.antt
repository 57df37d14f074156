use Rattle.fold_branch.proofs.Checking.{folded_meets}
use Rattle.fold_branch.proofs.Refining.{folded_refines}
use Rattle.fold_branch.proofs.laws.every_folded_function_refines_the_old.Goals as goal

pub returns-clause-refines : goal.returns-clause-refines
returns-clause-refines c = folded_refines

pub returns-clause-checks : goal.returns-clause-checks
returns-clause-checks c = folded_meets
