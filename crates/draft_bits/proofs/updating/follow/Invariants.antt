-- the places that wait are all that may be wrong
use Rattle.draft_bits.proofs.Common.{ℕ, All, Contains, HasFewBits, HasSameBits, IsPlaceIn, IsUpdating, Place, arena_of}
use Rattle.draft.specs.Drafts.{orders_of}
use Rattle.places.specs.Worklist.{IsWorklist}
use Rattle.draft_bits.proofs.Turns.{turns_left}
use Rattle.draft_bits.proofs.updating.follow.Given as goal

abbrev pub decreases-loop-place : goal.decreases-loop-place
decreases-loop-place l = turns_left (orders_of l.draft) l.waiting.heap

abbrev pub invariant-loop-place : goal.invariant-loop-place
invariant-loop-place l = record {
  worklist : IsWorklist (orders_of l.draft) l.waiting;
  updating : IsUpdating l.draft l.waiting.marks l.bits;
  few : HasFewBits l.bits;
  more : (p : Place) → Contains l.initial.changed.items p → Contains l.changed.items p;
  places : All (IsPlaceIn (arena_of l.draft)) l.changed.items;
  same : (b n : ℕ) → ¬ Contains l.changed.items (record { block = b; number = n }) → HasSameBits l.initial.bits l.bits b n;
}
