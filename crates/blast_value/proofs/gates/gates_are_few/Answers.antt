use Rattle.blast_value.proofs.Counts.{gates_are_few}
use Rattle.blast_value.proofs.gates.gates_are_few.Goals as goal

pub returns : goal.returns
returns c = gates_are_few
