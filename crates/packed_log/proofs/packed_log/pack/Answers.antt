use Rattle.packed_log.proofs.Common.{◌≡◌, ◌∷◌, ◌++◌, [], List, ℕ, subst, ◌∙◌, rules, Adds, AreHints}
use Rattle.packed_log.proofs.Steps.{no_steps, one_more_step, all_packed}
use Rattle.packed_log.proofs.packed_log.pack.Goals as goal

pub loop-step-init : goal.loop-step-init
loop-step-init c = no_steps _ _ c.new-clauses.ensures c.new-hints.ensures.items

pub loop-step-preserved : goal.loop-step-preserved
loop-step-preserved c =
    let more : c.push.new.self ≡ c.loop-step.clauses ++ c.step-item.result.clause ∷ [] = search rules in
    one_more_step _ _ c.step-item.result c.loop-step.clauses c.push.new.self c.loop-step.hints.items c.push_hints.new.bytes.items c.loop-step-test.true c.step-item.is more
    (subst (λ (hints : List ℕ). Adds (AreHints hints) c.loop-step.hints.items c.push_hints.new.bytes.items) c.as_slice-in-loop-step.ensures c.in_ok-push_hints.ensures) c.loop-step.invariant

pub invariant_of-result : goal.invariant_of-result
invariant_of-result c = (all_packed _ _ _ _ _ c.loop-step-test.false c.shrink_to_fit.ensures.items c.loop-step.invariant).1

pub returns : goal.returns
returns c = (all_packed _ _ _ _ _ c.loop-step-test.false c.shrink_to_fit.ensures.items c.loop-step.invariant).0 ∙ c.as_slice-steps.ensures
