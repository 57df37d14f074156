-- Assignment in terms of a graph alone: what every walk to a place has passed.
use Rattle.std.specs.Prelude.{◌≡◌, ℕ, ◌<◌, ◌⊎◌, List, ◌∷◌, length, Contains}
use Rattle.dominator_tree.specs.Walks.{IsEdge, IsWalk}

-- every walk to place k of block b has passed place j of block d, in an earlier block of the walk or in this one before
-- the place
abbrev pub IsPassed : List (List ℕ) → ℕ → ℕ → ℕ → ℕ → Type 0
IsPassed graph d j b k = (before : List ℕ) → IsWalk graph (b ∷ before) → Contains before d ⊎ ((d ≡ b) × (j < k))

-- there is a first block, and each edge leads to a block of the graph
pub record IsClosed (graph : List (List ℕ)) : Type 0 where
  pub some_block : 0 < length graph
  pub targets : (b c : ℕ) → IsEdge graph b c → c < length graph
