use Rattle.draft_steps.proofs.Common.{◌≡◌, ◌<◌, ℕ, None, Option, Some, length, sym, subst, ◌∙◌, IfNone, IfSome, ComesNext, IsIdle, Has, IsRemoved, IsWorklist, IsFirst, WorklistView, Place}
use Rattle.draft_steps.proofs.WorklistSteps.{comes-next}
use Rattle.draft_steps.proofs.worklist.DraftWorklist.take_first.Goals as goal

pub take_first-requires : goal.take_first-requires
take_first-requires c =
    subst (λ o. IsWorklist o c.self.inside.waiting) (sym c.as_slice.ensures.value) (subst (IsWorklist c.args.draft.now.orders.items) (sym c.self.view_is) c.requires.worklist)

pub invariant_of-self : goal.invariant_of-self
invariant_of-self c =
    let was = subst (λ o. IsWorklist o c.self.inside.waiting) (sym c.as_slice.ensures.value) (subst (IsWorklist c.args.draft.now.orders.items) (sym c.self.view_is) c.requires.worklist) in
    subst (λ n. IsIdle n c.self.inside.walk) (was.blocks ∙ sym c.take_first.ensures.arranged.blocks) c.self.invariant

pub returns-clause-worklist : goal.returns-clause-worklist
returns-clause-worklist c = subst (λ o. IsWorklist o c.take_first.new.self) c.as_slice.ensures.value c.take_first.ensures.arranged

pub returns-clause-first : goal.returns-clause-first
returns-clause-first c =
    by c.take_first.result (subst (λ (w : WorklistView). IfSome c.take_first.result (IsFirst c.args.draft.now.orders.items w.marks)) c.self.view_is
    (subst (λ o. IfSome c.take_first.result (IsFirst o c.self.inside.waiting.marks)) c.as_slice.ensures.value c.take_first.ensures.first))
  where
    by : (found : Option Place) → IfSome found (IsFirst c.args.draft.now.orders.items c.args.self.now.marks) → IfSome found (ComesNext c.args.draft.now c.args.self.now)
    by None first = tt
    by (Some p) first = comes-next c.args.draft.now c.args.self.now p c.requires.whole c.requires.worklist first

pub returns-clause-removed : goal.returns-clause-removed
returns-clause-removed c = subst (λ (w : WorklistView). IfSome c.take_first.result (IsRemoved w.marks c.take_first.new.self.marks)) c.self.view_is c.take_first.ensures.removed

pub returns-clause-fewer : goal.returns-clause-fewer
returns-clause-fewer c =
    subst (λ (w : WorklistView). IfSome c.take_first.result (λ _. length c.take_first.new.self.heap < length w.heap)) c.self.view_is c.take_first.ensures.fewer

pub returns-clause-none : goal.returns-clause-none
returns-clause-none c = subst (λ (w : WorklistView). IfNone c.take_first.result ((b n : ℕ) → ¬ Has w.marks b n)) c.self.view_is c.take_first.ensures.none

pub returns-clause-kept : goal.returns-clause-kept
returns-clause-kept c = subst (λ (w : WorklistView). IfNone c.take_first.result (c.take_first.new.self.marks ≡ w.marks)) c.self.view_is c.take_first.ensures.kept
