-- Orders of blocks that stay the same for old numbers while new numbers are inserted.
use Rattle.std.specs.Prelude.{◌≡◌, ℕ, ◌<◌, List, [], length, Contains, slice_index_or, slice_set}
use Rattle.places.specs.declared.place.Place.{Place}
use Rattle.places.specs.Heaps.{IsNumbered, ComesBefore}
use Rattle.places.specs.Orders.{put_before}

-- The places of the old orders are in the new ones, and where one of them comes before another there, it did so before.
pub record KeepsOrders (old new : List (List ℕ)) : Type 0 where
  pub blocks : length new ≡ length old
  pub numbered : (p : Place) → IsNumbered old p → IsNumbered new p
  pub order : (p q : Place) → IsNumbered old p → IsNumbered old q → ComesBefore new p q → ComesBefore old p q

-- orders are kept where a new number is inserted before another of its block
abbrev pub PutsKeepOrders : Type 0
PutsKeepOrders = (orders : List (List ℕ)) (b at n : ℕ) → b < length orders → Contains (slice_index_or orders b []) at → ¬ Contains (slice_index_or orders b []) n
    → KeepsOrders orders (slice_set orders b (put_before (slice_index_or orders b []) at n))

-- orders that are kept twice are kept
abbrev pub KeepingIsTransitive : Type 0
KeepingIsTransitive = (a b c : List (List ℕ)) → KeepsOrders a b → KeepsOrders b c → KeepsOrders a c
