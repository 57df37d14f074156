-- Variables that the decision order may have.
use Rattle.std.specs.Prelude.{ℕ, ◌<◌, List, All}

-- each of the variables is from 1 on and below this number
abbrev pub NamesBelow : ℕ → List ℕ → Type 0
NamesBelow bound variables = All (λ v. (0 < v) × (v < bound)) variables
