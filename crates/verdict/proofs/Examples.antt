-- The example at a setting that the circuit of a rule is true at.
use Rattle.verdict.proofs.Common.{◌≡◌, ℕ, List, sym, ◌∙◌, subst, Number, AllowsEffect, Effect, Rule, Example, IsRule, IsTyping, Setting, HaveEffects, IsCounterexample, RulesHaveOneOutcome, Refutes, IsRefutedBy}

-- a counterexample has the effects that the halves have at its setting
pub counterexample_with : RulesHaveOneOutcome → (rule : Rule) (typing : List ℕ) (setting : Setting) → IsRule rule → IsTyping rule typing → Refutes rule typing setting → (choices : List Number) (source target : Effect) → HaveEffects rule typing setting choices source target → IsCounterexample rule typing setting choices source target
counterexample_with law rule typing setting checked typed (others, s, t, bad) choices source target have =
    let once = law rule typing setting checked typed bad.counts.fits in
    let wanted = once.4 choices source target have in
    let found = once.4 others s t bad.effects in
    let same_source : s ≡ source = found.0 ∙ sym wanted.0 in
    let same_target : t ≡ target = found.1 ∙ sym wanted.1 in
    record {
      counts = bad.counts;
      effects = have;
      refused = subst (λ e. ¬ (AllowsEffect source e)) same_target (subst (λ d. ¬ (AllowsEffect d t)) same_source bad.refused);
    }

-- so the example at such a setting, with the choices and the effects there, refutes the rule
pub refuted_by : RulesHaveOneOutcome → (rule : Rule) (typing : List ℕ) → IsRule rule → IsTyping rule typing → (setting : Setting) → Refutes rule typing setting → (choices : List Number) (source target : Effect) → HaveEffects rule typing setting choices source target → (example : Example) → example.inputs ≡ setting.inputs → example.constants ≡ setting.constants → example.target_undefs ≡ setting.target_choices → example.source_undefs ≡ choices → example.source ≡ source → example.target ≡ target → IsRefutedBy rule typing example
refuted_by law rule typing checked typed setting refutes choices source target have example inputs constants target_choices source_choices of_source of_target =
    rw (inputs, constants, target_choices, source_choices, of_source, of_target) (counterexample_with law rule typing setting checked typed refutes choices source target have)
