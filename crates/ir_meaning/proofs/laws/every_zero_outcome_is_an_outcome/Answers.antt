use Rattle.ir_meaning.proofs.ZeroOutcomes.{zero_is_outcome}
use Rattle.ir_meaning.proofs.laws.every_zero_outcome_is_an_outcome.Goals as goal

pub returns : goal.returns
returns c = zero_is_outcome
