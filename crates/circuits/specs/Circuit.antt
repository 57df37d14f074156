-- What a circuit keeps and gains as it grows.
use Rattle.std.specs.Prelude.{◌≡◌, ◌≤◌, ℕ, ◌+◌, Bool, List}
use Rattle.circuits.specs.declared.state.State.{Ghosts}

-- From an older state of a circuit to a newer one the older literals stay the circuit's and keep their values, under
-- the same lists of inputs, and what is known of them under every list.
pub record Keeps {C L : Type 0} (g : Ghosts C L) (old new : C) : Type 0 where
  pub literals : (l : L) → g.has_literal old l → g.has_literal new l
  pub admitted : (inputs : List Bool) → g.admits old inputs → g.admits new inputs
  pub admits_no_more : (inputs : List Bool) → g.admits new inputs → g.admits old inputs
  pub values : (inputs : List Bool) (l : L) → g.admits old inputs → g.has_literal old l → g.value new inputs l ≡ g.value old inputs l
  pub known : (inputs : List Bool) (l : L) → g.has_literal old l → g.known new inputs l ≡ g.known old inputs l

-- From an older state of a circuit to a newer one no input was made, at most `most` gates were, and the older literals
-- are kept.
pub record Adds {C L : Type 0} (g : Ghosts C L) (old new : C) (most : ℕ) : Type 0 where
  pub inputs : g.inputs_made new ≡ g.inputs_made old
  pub gates : g.gates_made new ≤ g.gates_made old + most
  pub keeps : Keeps g old new
