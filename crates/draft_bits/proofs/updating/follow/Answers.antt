use Rattle.draft_bits.proofs.Common.{◌≡◌, ℕ, length, inl, inr, refl, sym, subst, ◌∙◌, Has, IsIdle, Rows}
use Rattle.draft.specs.Drafts.{orders_of}
use Rattle.places.specs.Sets.{IsRemoved}
use Rattle.places.specs.Worklist.{IsFirst, IsWorklist}
use Rattle.draft_bits.proofs.Beginning.{idle_again}
use Rattle.draft_bits.proofs.Turns.{fewer}
use Rattle.draft_bits.proofs.Updates.{finished}
use Rattle.draft_bits.proofs.updating.follow.Goals as goal
use Rattle.draft_bits.proofs.updating.follow.Goals.{In-Some}

-- the place that was taken is the first that waited
is_first : (c : In-Some) → IsFirst (orders_of c.args.draft.now) c.loop-place.waiting.marks c.in-Some.place
is_first c = subst (λ o. IsFirst o c.loop-place.waiting.marks c.in-Some.place) c.as_slice.ensures.value (rw c.in-Some.is at c.take_first.ensures.first)

is_removed : (c : In-Some) → IsRemoved c.loop-place.waiting.marks c.take_first.new.self.marks c.in-Some.place
is_removed c = rw c.in-Some.is at c.take_first.ensures.removed

pub loop-place-init : goal.loop-place-init
loop-place-init c = record {
  worklist = c.requires.worklist;
  updating = c.requires.updating;
  few = c.requires.few;
  more = λ p has. has;
  places = c.requires.places;
  same = λ b n free. refl;
}

pub take_first-requires : goal.take_first-requires
take_first-requires c = subst (λ o. IsWorklist o c.loop-place.waiting) (sym c.as_slice.ensures.value) c.loop-place.invariant.worklist

pub set_right-requires-clause-worklist : goal.set_right-requires-clause-worklist
set_right-requires-clause-worklist c = subst (λ o. IsWorklist o c.take_first.new.self) c.as_slice.ensures.value c.take_first.ensures.arranged

pub set_right-requires-clause-taken : goal.set_right-requires-clause-taken
set_right-requires-clause-taken c =
    let taken = (goal.at.set_right-requires-clause-taken c).In-Some in
    (c.loop-place.waiting.marks, is_first taken, is_removed taken, c.loop-place.invariant.updating)

pub set_right-requires-clause-few : goal.set_right-requires-clause-few
set_right-requires-clause-few c = c.loop-place.invariant.few

pub set_right-requires-clause-places : goal.set_right-requires-clause-places
set_right-requires-clause-places c = c.loop-place.invariant.places

pub loop-place-preserved : goal.loop-place-preserved
loop-place-preserved c =
    let h = c.loop-place.invariant in
    let on = c.in_ok-set_right.ensures in
    record {
      worklist = on.worklist;
      updating = on.updating;
      few = on.few;
      more = λ p has. on.more p (h.more p has);
      places = on.places;
      same = λ b n free. on.same b n free ∙ h.same b n (λ has. free (on.more (record { block = b; number = n }) has));
    }

pub loop-place-smaller : goal.loop-place-smaller
loop-place-smaller c =
    let taken = (goal.at.loop-place-smaller c).In-Some in
    fewer (orders_of c.args.draft.now) c.loop-place.waiting c.set_right.new.waiting c.in-Some.place c.loop-place.invariant.worklist c.in_ok-set_right.ensures.worklist (is_first taken)
    (λ b n has. elim (c.in_ok-set_right.ensures.behind b n has) [
      | inl left ↦ inl ((is_removed taken b n).0 left)
      | inr before ↦ inr before
    ])

pub returns-clause-bits : goal.returns-clause-bits
returns-clause-bits c =
    let d = c.args.draft.now in
    let left = c.take_first.new.self in
    let h = c.loop-place.invariant in
    let none : (b n : ℕ) → ¬ Has c.loop-place.waiting.marks b n = rw c.in_default.is at c.take_first.ensures.none in
    let kept : left.marks ≡ c.loop-place.waiting.marks = rw c.in_default.is at c.take_first.ensures.kept in
    let idle : IsIdle (length (orders_of d)) left =
    idle_again (orders_of d) left (subst (λ o. IsWorklist o left) c.as_slice.ensures.value c.take_first.ensures.arranged) (subst (λ (marks : Rows). (b n : ℕ) → ¬ Has marks b n) (sym kept) none) in
    finished d c.loop-place.waiting.marks c.loop-place.bits left h.updating none (subst (λ (blocks : ℕ). IsIdle blocks left) (c.requires.settled.whole.ordered ∙ sym h.updating.as_many) idle)

pub returns-clause-more : goal.returns-clause-more
returns-clause-more c = c.loop-place.invariant.more

pub returns-clause-same : goal.returns-clause-same
returns-clause-same c = c.loop-place.invariant.same
