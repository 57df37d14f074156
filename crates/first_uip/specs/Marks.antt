-- Where entries stand in the trail, and which blocks of the trail have entries that are seen.
use Rattle.std.specs.Prelude.{◌≡◌, ℕ, ◌/◌, ◌<◌, ◌≤◌, Bool, true, List, Some, length, slice_get, slice_index_or}
use Rattle.depth_first.specs.declared.trail.Entry.{Entry}
use Rattle.first_uip.specs.declared.roles.Role.{Role}
use Rattle.first_uip.specs.Conflict.{is_seen, part_of, role_of}

-- the table has the place of each entry before this place, by its variable
abbrev pub IsPlaced : List ℕ → List Entry → ℕ → Type 0
IsPlaced places entries to =
    (place : ℕ) (e : Entry) → place < to → slice_get entries place ≡ Some e → slice_index_or places e.literal.variable 0 ≡ place

-- the table has the places of so many entries, and the trail has that many
abbrev pub IsNoted : List ℕ → List Entry → ℕ → Type 0
IsNoted places entries to = (to ≤ length entries) × IsPlaced places entries to

-- whether the block of a place is marked; behind the table's end each is
abbrev pub is_marked : List Bool → ℕ → Bool
is_marked blocks place = slice_index_or blocks (place / 32) true

-- for each variable that is seen, the block of the place that the table has for it is marked
abbrev pub EachMarked : List Bool → List ℕ → List Role → Type 0
EachMarked blocks places roles = (n : ℕ) → is_seen (role_of roles n) ≡ true → is_marked blocks (slice_index_or places n 0) ≡ true

-- the blocks of the entries that are seen are marked
abbrev pub IsMarked : List Entry → List Role → List Bool → Type 0
IsMarked entries roles blocks =
    (place : ℕ) (e : Entry) → slice_get entries place ≡ Some e → is_seen (part_of roles e) ≡ true → is_marked blocks place ≡ true
