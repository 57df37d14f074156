-- Worklists of places, from which the first in order is taken first.
use Rattle.std.specs.Prelude.{◌≡◌, ℕ, ◌==◌, ◌&&◌, if◌then◌else◌, List, length, sum_by}
use Rattle.places.specs.declared.place.Place.{Place}
use Rattle.places.specs.Heaps.{ComesBefore, IsHeap}
use Rattle.places.specs.Sets.{Rows, Has}

-- A worklist: the set of its places, and the same places in the heap from which the first is taken.
pub record WorklistView : Type 0 where
  pub marks : Rows
  pub heap : List Place

-- how often number n of block b is among some places
abbrev pub tally : List Place → ℕ → ℕ → ℕ
tally places b n = sum_by (λ p. if (p.block == b) && (p.number == n) then 1 else 0) places

-- The places of the set are in the list, once each, and no others are.
pub record AreMarked (marks : Rows) (places : List Place) : Type 0 where
  pub once : (b n : ℕ) → Has marks b n → tally places b n ≡ 1
  pub only : (b n : ℕ) → ¬ Has marks b n → tally places b n ≡ 0

-- A worklist over blocks in these orders: its heap is one by these orders, and holds each place of the set once.
pub record IsWorklist (orders : List (List ℕ)) (w : WorklistView) : Type 0 where
  pub blocks : length w.marks ≡ length orders
  pub heap : IsHeap orders w.heap
  pub once : AreMarked w.marks w.heap

-- a place of the set before which none comes that is in it
pub record IsFirst (orders : List (List ℕ)) (marks : Rows) (p : Place) : Type 0 where
  pub there : Has marks p.block p.number
  pub none_before : (b n : ℕ) → Has marks b n → ¬ ComesBefore orders (record { block = b; number = n }) p
