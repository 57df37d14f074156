-- Lists of places of instructions, by block and position in it.
use Rattle.std.specs.Prelude.{◌≡◌, ℕ, ◌<◌, ◌↔◌, ◌⊎◌, List, AllPairs, Contains}

-- the first place comes before the second: in an earlier block, or before it in the same
abbrev pub StandsBefore : ℕ × ℕ → ℕ × ℕ → Type 0
StandsBefore (b, k) (c, l) = (b < c) ⊎ ((b ≡ c) × (k < l))

-- These are exactly the places of which P holds, ascending.
pub record AreAscending (P : ℕ → ℕ → Type 0) (places : List (ℕ × ℕ)) : Type 0 where
  pub in_order : AllPairs StandsBefore places
  pub each : (b k : ℕ) → Contains places (b, k) ↔ P b k
