use Rattle.aig.proofs.GraphLemmas.{value_of_gate}
use Rattle.aig.proofs.laws.gates_have_their_values.Goals as goal

pub returns : goal.returns
returns c = λ count gates order inputs k gate at. value_of_gate inputs count gates order k gate at
