-- The order of places, and binary heaps of them.
use Rattle.std.specs.Prelude.{◌≡◌, ℕ, suc, ◌+◌, ◌*◌, ◌<◌, ◌≤◌, ◌⊎◌, List, [], length, sum_by, All, Contains, slice_index_or}
use Rattle.places.specs.declared.place.Place.{Place}
use Rattle.places.specs.Orders.{place_in}

-- the place's number is in the order of its block, which removed instructions stay in
abbrev pub IsNumbered : List (List ℕ) → Place → Type 0
IsNumbered orders p = Contains (slice_index_or orders p.block []) p.number

-- it is in an earlier block than the other, or stands before it in its block
abbrev pub ComesBefore : List (List ℕ) → Place → Place → Type 0
ComesBefore orders p q = (p.block < q.block) ⊎ ((p.block ≡ q.block) × (place_in (slice_index_or orders p.block []) p.number < place_in (slice_index_or orders p.block []) q.number))

-- what is read past the end of a list of places
abbrev pub nowhere : Place
nowhere = record { block = 0; number = 0 }

abbrev pub place_at : List Place → ℕ → Place
place_at heap k = slice_index_or heap k nowhere

-- index k of a heap is one of the two children of index `over`
abbrev pub IsBelow : ℕ → ℕ → Type 0
IsBelow k over = (2 * over < k) × (k ≤ 2 * over + 2)

-- A binary heap: no entry comes before its parent.
pub record IsHeap (orders : List (List ℕ)) (heap : List Place) : Type 0 where
  pub numbered : All (IsNumbered orders) heap
  pub ordered : (k over : ℕ) → IsBelow k over → k < length heap → ¬ ComesBefore orders (place_at heap k) (place_at heap over)

-- a number for each place, lower for one that comes before another
abbrev pub rank : List (List ℕ) → Place → ℕ
rank orders p = p.block * suc (sum_by length orders) + place_in (slice_index_or orders p.block []) p.number

abbrev pub rank_at : List (List ℕ) → List Place → ℕ → ℕ
rank_at orders heap k = rank orders (place_at heap k)

-- An entry is being sifted up: each of so many ranks but the one at `at` is at least its parent's, and those of the
-- children of `at` are at least that of its parent.
pub record IsRising (ranks : ℕ → ℕ) (count at : ℕ) : Type 0 where
  pub others : (k over : ℕ) → IsBelow k over → k < count → (k ≡ at → ⊥) → ranks over ≤ ranks k
  pub around : (k over : ℕ) → IsBelow at over → IsBelow k at → k < count → ranks over ≤ ranks k

-- An entry is being sifted down: each of so many ranks is at least its parent's but for those of the children of `at`,
-- which are at least that of the parent of `at`.
pub record IsSinking (ranks : ℕ → ℕ) (count at : ℕ) : Type 0 where
  pub others : (k over : ℕ) → IsBelow k over → k < count → (over ≡ at → ⊥) → ranks over ≤ ranks k
  pub around : (k over : ℕ) → IsBelow at over → IsBelow k at → k < count → ranks over ≤ ranks k

-- Index k is a child of `over`, and no child has a lower rank.
pub record IsLeastBelow (ranks : ℕ → ℕ) (count over k : ℕ) : Type 0 where
  pub below : IsBelow k over
  pub within : k < count
  pub least : (j : ℕ) → IsBelow j over → j < count → ranks k ≤ ranks j
