use Rattle.aig.proofs.Keys.{no_twice}
use Rattle.aig.proofs.graph.Aig.gates.Goals as goal

pub returns-clause-no_twice : goal.returns-clause-no_twice
returns-clause-no_twice c = rw (← c.self.view_is) (no_twice c.self.inside.gates.keys c.as_slice.ensures.unique)
