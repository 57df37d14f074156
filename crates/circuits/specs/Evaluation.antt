-- What is known of a circuit whose literals are truth values.
use Rattle.std.specs.Prelude.{ℕ, Bool, List}

-- An evaluation of a circuit: the inputs' values in order, and how many of them were made.
pub record Evaluation : Type 0 where
  pub inputs : List Bool
  pub made : ℕ
