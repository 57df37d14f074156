use Rattle.substitution.proofs.Refining.{functions_refine, functions_refine_where_allowed}
use Rattle.substitution.proofs.laws.rewritten_functions_refine.Goals as goal

pub returns-clause-refines : goal.returns-clause-refines
returns-clause-refines c = functions_refine

pub returns-clause-allowed : goal.returns-clause-allowed
returns-clause-allowed c = functions_refine_where_allowed
