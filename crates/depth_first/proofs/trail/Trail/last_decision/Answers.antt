use Rattle.depth_first.proofs.Common.{◌≡◌, Some, cond, sym, ap, ◌∙◌, Entry, is_decision}
use Rattle.depth_first.proofs.Decisions.{LastBefore-step}
use Rattle.depth_first.proofs.trail.Trail.last_decision.Goals as goal
use Rattle.depth_first.proofs.trail.Trail.last_decision.Goals.{then-is_decision, else-is_decision}

pub loop-place-preserved : goal.loop-place-preserved
loop-place-preserved c =
    let k = c.loop-place.place in
    let last = c.loop-place.last in
    let next : c.if-is_decision.last ≡ cond c.is_decision.result (Some k) last =
    elim c.if-is_decision.branch [
      | then-is_decision w ↦ w.last-is ∙ ap (λ b. cond b (Some k) last) (sym w.if-is_decision.true)
      | else-is_decision w ↦ w.last-is ∙ ap (λ b. cond b (Some k) last) (sym w.if-is_decision.false)
    ] in
    LastBefore-step c.args.self.now.entries.items c.deref-entry-items.result.now k c.entry-item.result last c.if-is_decision.last c.is_decision.result
    c.deref-entry-items.ensures.value c.loop-place-test.true
    (c.is_decision.ensures ∙ ap (λ (e : Entry). is_decision e.cause) c.entry-item.is) c.loop-place.invariant next
