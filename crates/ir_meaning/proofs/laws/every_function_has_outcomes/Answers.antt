use Rattle.ir_meaning.proofs.Outcomes.{functions_have_outcomes}
use Rattle.ir_meaning.proofs.laws.every_function_has_outcomes.Goals as goal

pub returns : goal.returns
returns c = functions_have_outcomes
