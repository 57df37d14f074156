-- The set has as many blocks as before, so the search still fits it.
use Rattle.draft_steps.proofs.Common.{sym, subst, ◌∙◌, IsNumbered, IsAdded, IsWorklist, WorklistView, IsIdle}
use Rattle.draft_steps.proofs.worklist.DraftWorklist.insert.Goals as goal

pub insert-requires-clause-arranged : goal.insert-requires-clause-arranged
insert-requires-clause-arranged c =
    subst (λ o. IsWorklist o c.self.inside.waiting) (sym c.as_slice.ensures.value) (subst (IsWorklist c.args.draft.now.orders.items) (sym c.self.view_is) c.requires.worklist)

pub insert-requires-clause-place : goal.insert-requires-clause-place
insert-requires-clause-place c = subst (λ o. IsNumbered o c.args.place) (sym c.as_slice.ensures.value) c.requires.place

pub invariant_of-self : goal.invariant_of-self
invariant_of-self c =
    let was = subst (λ o. IsWorklist o c.self.inside.waiting) (sym c.as_slice.ensures.value) (subst (IsWorklist c.args.draft.now.orders.items) (sym c.self.view_is) c.requires.worklist) in
    subst (λ n. IsIdle n c.self.inside.walk) (was.blocks ∙ sym c.in_err-insert.ensures.arranged.blocks) c.self.invariant

pub invariant_of-self-2 : goal.invariant_of-self-2
invariant_of-self-2 c =
    let was = subst (λ o. IsWorklist o c.self.inside.waiting) (sym c.as_slice.ensures.value) (subst (IsWorklist c.args.draft.now.orders.items) (sym c.self.view_is) c.requires.worklist) in
    subst (λ n. IsIdle n c.self.inside.walk) (was.blocks ∙ sym c.in_ok-insert.ensures.arranged.blocks) c.self.invariant

pub returns-clause-worklist : goal.returns-clause-worklist
returns-clause-worklist c = subst (λ o. IsWorklist o c.insert.new.self) c.as_slice.ensures.value c.in_ok-insert.ensures.arranged

pub returns-clause-added : goal.returns-clause-added
returns-clause-added c = subst (λ (w : WorklistView). IsAdded w.marks c.insert.new.self.marks c.args.place) c.self.view_is c.in_ok-insert.ensures.added
