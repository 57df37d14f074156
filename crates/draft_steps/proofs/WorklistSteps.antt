-- The order of a draft's instructions, and the order in which a worklist gives them.
use Rattle.draft_steps.proofs.Common.{ℕ, ◌<◌, inl, inr, List, [], length, All, get_or, sym, subst, All-contains, All-weaker, slice_get_within, HasInst, Draft, Place, Walk, DraftWorklist, Stands, StandsBefore, IsNumbered, ComesNext, IsWorklistOf, IsFirst, IsWalk, IsWhole, same_order, marked-contains, numbers_are, stands_marked, stands_there, inst-numbered, numbered-inst}
use Rattle.places.specs.Heaps.{ComesBefore}
use Rattle.places.specs.Orders.{place_in}

pub walk-numbered : (d : Draft) (w : Walk) → IsWhole d → IsWalk d w → All (IsNumbered d.orders.items) w.found.items
walk-numbered d w whole walk =
    All-weaker (λ (p : Place). HasInst d.arena p.block p.number) (IsNumbered d.orders.items) (λ p inst. inst-numbered d p whole inst) w.found.items walk.insts

pub walk-inside : (d : Draft) (w : Walk) → IsWalk d w → All (λ (p : Place). p.block < length w.reached) w.found.items
walk-inside d w walk =
    All-weaker (λ (p : Place). HasInst d.arena p.block p.number) (λ (p : Place). p.block < length w.reached)
    (λ p inst. subst (λ n. p.block < n) (sym walk.blocks) (slice_get_within d.arena.blocks p.block inst.0 inst.1)) w.found.items walk.insts

-- where an instruction that stands is before another, its place comes before the other's in the orders
pub stands-comes : (d : Draft) (p q : Place) → IsWhole d → Stands d p.block p.number → Stands d q.block q.number → StandsBefore d p.block p.number q.block q.number
    → ComesBefore d.orders.items p q
stands-comes d p q whole here there before = elim before [
  | inl less ↦ inl less
  | inr (same, less) ↦
      let other : Stands d p.block q.number = subst (λ (b : ℕ). Stands d b q.number) (sym same) there in
      let (block, at, within) = stands_there d whole p.block p.number here in
      let order : List ℕ = get_or d.orders.items p.block [] in
      let same_there = same_order (get_or d.stand.items p.block []) order p.number q.number (stands_marked d whole p.block block at p.number here).1 (stands_marked d whole p.block block at q.number other).1 in
      inr (same, same_there.1 (subst (λ (l : List ℕ). place_in l p.number < place_in l q.number) (numbers_are d whole p.block block at) less))
]

pub comes-next : (d : Draft) (q : DraftWorklist) (p : Place) → IsWhole d → IsWorklistOf d q → IsFirst d.orders.items q.marks p → ComesNext d q p
comes-next d q p whole worklist first = record {
  waits = first.there;
  inst = numbered-inst d p whole
      (All-contains (IsNumbered d.orders.items) q.heap p worklist.heap.numbered (marked-contains q.marks q.heap p.block p.number worklist.once first.there));
  none_before = λ here b n waits there before. first.none_before b n waits (stands-comes d (record { block = b; number = n }) p whole there here before);
}
