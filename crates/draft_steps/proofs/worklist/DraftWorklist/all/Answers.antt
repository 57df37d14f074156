use Rattle.draft_steps.proofs.Common.{◌≡◌, ◌⊎◌, ℕ, ◌+◌, ◌<◌, inl, inr, List, [], length, refl, sym, subst, arith, ◌∙◌, ◌↔◌, cases_eq, iff_false, slice_get_within, IsReached, Stands, IsWorklistOf, IsOnWorklist, Has, IsIdle, Draft, Place, DraftWorklist, IsHeap, IsWorklist, WorklistView, tally, stands_there}
use Rattle.draft_steps.proofs.worklist.DraftWorklist.all.Goals as goal
use Rattle.draft_steps.proofs.worklist.DraftWorklist.all.Goals.{then-reached+in_ok-insert_block, else-reached}

empty_heap : (orders : List (List ℕ)) (heap : List Place) → heap ≡ [] → IsHeap orders heap
empty_heap orders heap is = subst (IsHeap orders) (sym is) (record { numbered = λ k e within. absurd (omega arith); ordered = λ k over below within before. omega arith })

empty_arranged : (orders : List (List ℕ)) (w : WorklistView) → length w.marks ≡ length orders → ((b n : ℕ) → ¬ Has w.marks b n) → w.heap ≡ [] → IsWorklist orders w
empty_arranged orders w blocks unmarked none = record {
  blocks = blocks;
  heap = empty_heap orders w.heap none;
  once = record {
    once = λ b n has. absurd (unmarked b n has);
    only = λ b n free. subst (λ (l : List Place). tally l b n ≡ 0) (sym none) refl;
  };
}

-- the worklist has all that stands in reached blocks before this one
abbrev Added : Draft → ℕ → DraftWorklist → Type 0
Added d block q = (b n : ℕ) → IsOnWorklist q b n ↔ ((b < block) × IsReached d.arena b × Stands d b n)

one_more : (d : Draft) (was now : DraftWorklist) (block : ℕ) → IsReached d.arena block → Added d block was → ((b n : ℕ) → IsOnWorklist now b n ↔ (IsOnWorklist was b n ⊎ ((b ≡ block) × Stands d b n))) → Added d (block + 1) now
one_more d was now block reached so_far added b n = (
  λ h. elim ((added b n).0 h) [
    | inl waited ↦ let (less, there, stands) = (so_far b n).0 waited in (omega arith, there, stands)
    | inr (here, stands) ↦ (omega arith, subst (IsReached d.arena) (sym here) reached, stands)
  ],
  λ (less, there, stands). elim (cases_eq b block) [
    | inl here ↦ (added b n).1 (inr (here, stands))
    | inr other ↦ (added b n).1 (inl ((so_far b n).1 (omega arith, there, stands)))
  ],
)

none_more : (d : Draft) (was : DraftWorklist) (block : ℕ) → ¬ IsReached d.arena block → Added d block was → Added d (block + 1) was
none_more d was block unreached so_far b n = (
  λ h. let (less, there, stands) = (so_far b n).0 h in (omega arith, there, stands),
  λ (less, there, stands). elim (cases_eq b block) [
    | inl here ↦ absurd (unreached (subst (IsReached d.arena) here there))
    | inr other ↦ (so_far b n).1 (omega arith, there, stands)
  ],
)

pub invariant_of-worklist : goal.invariant_of-worklist
invariant_of-worklist c =
    subst (λ (n : ℕ). IsIdle n c.in_ok-none-2.field-0) (c.blocks-3.ensures ∙ sym (c.in_ok-none.ensures.blocks ∙ c.blocks-2.ensures)) c.in_ok-none-2.ensures

pub loop-block-init : goal.loop-block-init
loop-block-init c =
    let d = c.args.draft.now in
    let blocks : length d.arena.blocks ≡ length d.orders.items = sym c.requires.ordered in
    record {
      worklist = empty_arranged d.orders.items c.in_ok-none.field-0 (c.in_ok-none.ensures.blocks ∙ c.blocks-2.ensures ∙ blocks) c.in_ok-none.ensures.marks c.in_ok-none.ensures.heap;
      added = λ b n. (λ h. absurd (c.in_ok-none.ensures.marks b n h), λ (less, there, stands). absurd (omega arith));
    }

pub insert_block-requires-clause-worklist : goal.insert_block-requires-clause-worklist
insert_block-requires-clause-worklist c = c.loop-block.invariant.worklist

pub loop-block-preserved : goal.loop-block-preserved
loop-block-preserved c =
    let d = c.args.draft.now in
    let l = c.loop-block in
    elim c.if-reached.branch [
      | then-reached+in_ok-insert_block w ↦ record {
        worklist = subst (IsWorklistOf d) (sym w.worklist-is) w.in_ok-insert_block.ensures.worklist;
        added = subst (Added d (l.block + 1)) (sym w.worklist-is)
            (one_more d l.worklist w.insert_block.new.self l.block ((c.reached.ensures d.arena (sym c.requires.facts.flow)).0 w.if-reached.true) l.invariant.added w.in_ok-insert_block.ensures.added);
      }
      | else-reached w ↦ record {
        worklist = subst (IsWorklistOf d) (sym w.worklist-is) l.invariant.worklist;
        added = subst (Added d (l.block + 1)) (sym w.worklist-is)
            (none_more d l.worklist l.block (λ reached. iff_false (c.reached.ensures d.arena (sym c.requires.facts.flow)) w.if-reached.false reached) l.invariant.added);
      }
    ]

pub returns-clause-all : goal.returns-clause-all
returns-clause-all c = λ b n.
    let d = c.args.draft.now in
    let l = c.loop-block in (
      λ h. let (less, there, stands) = (l.invariant.added b n).0 h in (there, stands),
      λ (there, stands).
          let (block, at, within) = stands_there d c.requires b n stands in
          let inside = slice_get_within d.arena.blocks b block at in
          (l.invariant.added b n).1 (omega arith, there, stands),
    )
