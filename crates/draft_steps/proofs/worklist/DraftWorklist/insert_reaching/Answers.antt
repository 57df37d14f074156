-- What the search found is added, and the search forgets it.
use Rattle.draft_steps.proofs.Common.{ℕ, inl, inr, All, Contains, sym, subst, ◌∙◌, All-contains, Place, IsNumbered, Has, IsWorklist, WorklistView, IsIdle}
use Rattle.draft_steps.proofs.WorklistSteps.{walk-inside, walk-numbered}
use Rattle.draft_steps.proofs.worklist.DraftWorklist.insert_reaching.Goals as goal

pub reach-requires-clause-idle : goal.reach-requires-clause-idle
reach-requires-clause-idle c =
    let was = subst (IsWorklist c.args.draft.orders.items) (sym c.self.view_is) c.requires.worklist in
    subst (λ n. IsIdle n c.self.inside.walk) (was.blocks ∙ c.requires.settled.whole.ordered) c.self.invariant

pub insert_all-requires-clause-arranged : goal.insert_all-requires-clause-arranged
insert_all-requires-clause-arranged c =
    let was = subst (IsWorklist c.args.draft.orders.items) (sym c.self.view_is) c.requires.worklist in
    subst (λ o. IsWorklist o c.self.inside.waiting) (sym (c.as_slice.ensures.value ∙ c.in_ok-reach.ensures.draft.orders)) was

pub insert_all-requires-clause-places : goal.insert_all-requires-clause-places
insert_all-requires-clause-places c =
    let d = c.reach.new.draft in
    let w = c.reach.new.self in
    subst (λ o. All (IsNumbered o) c.as_slice-2.result.now) (sym c.as_slice.ensures.value)
    (subst (All (IsNumbered d.orders.items)) (sym c.as_slice-2.ensures.value) (walk-numbered d w c.in_ok-reach.ensures.draft.whole c.in_ok-reach.ensures.walk))

pub clear-requires-clause-marked : goal.clear-requires-clause-marked
clear-requires-clause-marked c = c.in_ok-reach.ensures.walk.marked

pub clear-requires-clause-blocks : goal.clear-requires-clause-blocks
clear-requires-clause-blocks c = walk-inside c.reach.new.draft c.reach.new.self c.in_ok-reach.ensures.walk

pub invariant_of-result : goal.invariant_of-result
invariant_of-result c =
    let now = subst (λ o. IsWorklist o c.insert_all.new.waiting) c.as_slice.ensures.value c.in_ok-insert_all.ensures.arranged in
    subst (λ n. IsIdle n c.clear.new.self) (c.in_ok-reach.ensures.walk.blocks ∙ sym c.in_ok-reach.ensures.draft.whole.ordered ∙ sym now.blocks) c.clear.ensures

pub returns-clause-worklist : goal.returns-clause-worklist
returns-clause-worklist c = subst (λ o. IsWorklist o c.insert_all.new.waiting) c.as_slice.ensures.value c.in_ok-insert_all.ensures.arranged

pub returns-clause-stay : goal.returns-clause-stay
returns-clause-stay c = subst (λ (w : WorklistView). (b n : ℕ) → Has w.marks b n → Has c.insert_all.new.waiting.marks b n) c.self.view_is c.in_ok-insert_all.ensures.stay

pub returns-clause-reaching : goal.returns-clause-reaching
returns-clause-reaching c = λ p b n there stands reaches.
    All-contains (λ (q : Place). Has c.insert_all.new.waiting.marks q.block q.number) c.as_slice-2.result.now (record { block = b; number = n }) c.in_ok-insert_all.ensures.places
    (subst (λ l. Contains l (record { block = b; number = n })) (sym c.as_slice-2.ensures.value) (c.in_ok-reach.ensures.reached p b n there stands reaches))

pub returns-clause-only : goal.returns-clause-only
returns-clause-only c = λ b n waits. elim (c.in_ok-insert_all.ensures.only b n waits) [
  | inl before ↦ inl (subst (λ (w : WorklistView). Has w.marks b n) c.self.view_is before)
  | inr among ↦ inr (c.in_ok-reach.ensures.only b n (subst (λ l. Contains l (record { block = b; number = n })) c.as_slice-2.ensures.value among))
]
