use Rattle.blast_rule.proofs.Counts.{gates_are_few, gates_are_below}
use Rattle.blast_rule.proofs.laws.gates_are_few.Goals as goal

pub returns-clause-few : goal.returns-clause-few
returns-clause-few c = gates_are_few

pub returns-clause-below : goal.returns-clause-below
returns-clause-below c = gates_are_below
