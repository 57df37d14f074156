use Rattle.substitution.proofs.Holding.{runs_hold}
use Rattle.substitution.proofs.laws.runs_hold_what_is_assigned.Goals as goal

pub returns : goal.returns
returns c = runs_hold
