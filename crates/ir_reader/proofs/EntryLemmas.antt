-- Terminators that name the first block.
use Rattle.ir_reader.proofs.Common.{◌≡◌, ◌↔◌, ℕ, nat_eq, List, Option, Some, IsTrue, ap, subst, ◌∙◌, slice_get, then_some, IndexSet, contains, Function, Names, RawFunction, RawBlock, IsFirst, first_same, first_if, EntryPredHere, ArePredecessors}
use Rattle.ir_reader.proofs.Places.{same_at}

-- the line of a block's terminator, if the block is in the set of the first block's predecessors
pub entry_here : {R : Type 0} (raw : RawFunction) (f : Function) (sets : List (IndexSet ℕ R)) → ArePredecessors f sets → (set : IndexSet ℕ R) → slice_get sets 0 ≡ Some set → (b : ℕ) (w : RawBlock) → slice_get raw.blocks b ≡ Some w
    → (found : Option ℕ) → found ≡ then_some (contains nat_eq set b) w.end_line → IsFirst (EntryPredHere raw f b) found
entry_here raw f sets preds set set_at b w at found is =
    first_same (λ line. Names f b 0 × (w.end_line ≡ line)) (EntryPredHere raw f b)
    (λ line (names, on). (names, (w, at, on)))
    (λ line (names, (w', w'_at, on)). (names, ap (λ (x : RawBlock). x.end_line) (same_at raw.blocks b w w' at w'_at) ∙ on))
    found
    (first_if (contains nat_eq set b) (Names f b 0) w.end_line found named is)
  where
    named : IsTrue (contains nat_eq set b) ↔ Names f b 0
    named = (
      λ has. (preds.holds 0 b).0 (set, set_at, has),
      λ names. let (other, other_at, has) = (preds.holds 0 b).1 names in subst (λ s. IsTrue (contains nat_eq s b)) (same_at sets 0 other set other_at set_at) has,
    )
