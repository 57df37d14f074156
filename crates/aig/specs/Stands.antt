-- What a call that makes a gate answers: a literal that stands for a truth table.
use Rattle.std.specs.Prelude.{◌≡◌, List, Bool}
use Rattle.aig.specs.Literal.{Literal}
use Rattle.aig.specs.Graph.{Graph, IsOwn, value_of}

-- the literal is the graph's own, and has the value of the table under each list of inputs
pub record Stands (graph : Graph) (table : List Bool → Bool) (l : Literal) : Type 0 where
  pub own : IsOwn graph l
  pub value : (inputs : List Bool) → value_of graph inputs l ≡ table inputs
