-- Sets of places.
use Rattle.std.specs.Prelude.{◌≡◌, ℕ, ◌↔◌, ◌⊎◌, Bool, true, List, [], Some, slice_get, slice_index_or}
use Rattle.places.specs.declared.place.Place.{Place}

-- for each block a row of flags, which says of each number whether it is in the set; a number past its end is not
abbrev pub Rows : Type 0
Rows = List (List Bool)

-- number n of block b is in the set
abbrev pub Has : Rows → ℕ → ℕ → Type 0
Has rows b n = slice_get (slice_index_or rows b []) n ≡ Some true

abbrev pub IsPlace : Place → ℕ → ℕ → Type 0
IsPlace p b n = (p.block ≡ b) × (p.number ≡ n)

-- the same places are in both
abbrev pub IsSameSet : Rows → Rows → Type 0
IsSameSet old new = (b n : ℕ) → Has new b n ↔ Has old b n

-- the new set is the old one and this place
abbrev pub IsAdded : Rows → Rows → Place → Type 0
IsAdded old new p = (b n : ℕ) → Has new b n ↔ (IsPlace p b n ⊎ Has old b n)

-- the new set is the old one without this place
abbrev pub IsRemoved : Rows → Rows → Place → Type 0
IsRemoved old new p = (b n : ℕ) → Has new b n ↔ (¬ IsPlace p b n × Has old b n)

-- the same numbers are in both rows
abbrev pub AreSameMarks : List Bool → List Bool → Type 0
AreSameMarks old new = (n : ℕ) → (slice_get new n ≡ Some true) ↔ (slice_get old n ≡ Some true)

-- the new row has number i and those of the old one
abbrev pub IsMarkedIn : List Bool → List Bool → ℕ → Type 0
IsMarkedIn old new i = (n : ℕ) → (slice_get new n ≡ Some true) ↔ ((i ≡ n) ⊎ (slice_get old n ≡ Some true))
