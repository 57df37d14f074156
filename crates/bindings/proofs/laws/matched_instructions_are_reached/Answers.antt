use Rattle.bindings.proofs.Reached.{matched_reached}
use Rattle.bindings.proofs.laws.matched_instructions_are_reached.Goals as goal

pub returns : goal.returns
returns c = matched_reached
