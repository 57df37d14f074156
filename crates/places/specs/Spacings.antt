-- Numbers of a list that stand one after another, and labels that are spaced evenly.
use Rattle.std.specs.Prelude.{◌≡◌, ℕ, ◌+◌, ◌*◌, ◌<◌, ◌≤◌, List, length, Contains, slice_index_or}
use Rattle.places.specs.Orders.{none, place_in}
use Rattle.places.specs.Links.{node_of}
use Rattle.places.specs.declared.node.Node.{Node}
use Rattle.places.specs.declared.room.Run.{Run}
use Rattle.places.specs.declared.room.Spacing.{Spacing}

-- from the first to the last there are so many numbers
pub record IsRun (numbers : List ℕ) (run : Run) : Type 0 where
  pub first : Contains numbers run.first
  pub last : Contains numbers run.last
  pub many : place_in numbers run.first + run.count ≡ place_in numbers run.last + 1

-- what stands in the one run stands in the other
abbrev pub IsWithin : List ℕ → Run → Run → Type 0
IsWithin numbers run other = (place_in numbers other.first ≤ place_in numbers run.first) × (place_in numbers run.last ≤ place_in numbers other.last)

-- number n is one of those that are to be spaced
abbrev pub IsSpaced : List ℕ → Spacing → ℕ → Type 0
IsSpaced numbers s n = (place_in numbers s.first ≤ place_in numbers n) × (place_in numbers n < place_in numbers s.first + s.count)

-- the numbers that are to be spaced are some of the list, and their labels fit in between those of their neighbours
pub record IsSpacing (nodes : List Node) (numbers : List ℕ) (s : Spacing) : Type 0 where
  pub has : Contains numbers s.first
  pub some : 0 < s.count
  pub within : place_in numbers s.first + s.count ≤ length numbers
  pub apart : 1 < s.gap
  pub low : (node_of nodes (node_of nodes s.first).before).label ≤ s.low
  pub high : place_in numbers s.first + s.count < length numbers → s.low + s.count * s.gap < (node_of nodes (slice_index_or numbers (place_in numbers s.first + s.count) none)).label
  pub fits : s.low + s.count * s.gap ≤ 18446744073709551615
