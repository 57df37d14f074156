-- The circuit of a rule as a whole.
use Rattle.blast_rule.proofs.Common.{◌≡◌, ℕ, ◌↔◌, ◌+◌, ◌≤◌, Bool, true, false, ◌&&◌, List, map, Result, Ok, Err, refl, sym, subst, ◌∙◌, arith, IsTrue, OnOk, All, Number, AllowsEffect, Effect, Ghosts, Keeps, Rule, IsTyping, IsRule, KeepsFacts, PreconditionHolds, Setting, SettingFits, HaveEffects, RulesHaveOneOutcome, Blasted, effect_of, IsOwnEffect, Refutes, number_held, numbers_held-kept, effect_of-kept}

pub falsity : IsTrue false → ⊥
falsity h = cc

both : (a b : Bool) → IsTrue (a && b) → IsTrue a × IsTrue b
both true b h = (refl, h)
both false b h = absurd (falsity h)

and_true : (a b : Bool) → IsTrue a → IsTrue b → IsTrue (a && b)
and_true true b first second = second
and_true false b first second = absurd (falsity first)

-- a literal that is the conjunction of the precondition's and of one that is true exactly where P holds
pub true_where : (P : Type 0) (met met' holds b : Bool) → met' ≡ met → (IsTrue holds ↔ P) → b ≡ (met' && holds) → IsTrue b ↔ (IsTrue met × P)
true_where P met met' holds b kept is same = (
  λ h. let parts = both met' holds (subst IsTrue same h) in (subst IsTrue kept parts.0, is.0 parts.1),
  λ h. subst IsTrue (sym same) (and_true met' holds (subst IsTrue (sym kept) h.0) (is.1 h.1)),
)

-- A literal that is true exactly where the precondition holds and the source's effect doesn't allow the target's is
-- true exactly at a counterexample.
pub refutes : RulesHaveOneOutcome → (rule : Rule) (typing : List ℕ) (setting : Setting) (choices : List Number) (source target : Effect) (met b : Bool) → IsRule rule → IsTyping rule typing → SettingFits rule typing setting
    → HaveEffects rule typing setting choices source target → (IsTrue met ↔ (PreconditionHolds rule typing setting.constants × KeepsFacts rule typing setting.constants setting.inputs)) → (IsTrue b ↔ (IsTrue met × ¬ AllowsEffect source target)) → IsTrue b ↔ Refutes rule typing setting
refutes one rule typing setting choices source target met b checked typed fits have holds is = (
  λ h.
      let parts = is.0 h in
      (choices, source, target, record { counts = record { fits = fits; precondition = (holds.0 parts.0).0; facts = (holds.0 parts.0).1 }; effects = have; refused = parts.1 }),
  λ (ch, s, t, counter).
      let o = one rule typing setting checked typed fits in
      let here = o.4 choices source target have in
      let there = o.4 ch s t counter.effects in
      is.1 (
        holds.1 (counter.counts.precondition, counter.counts.facts),
        λ allowed. counter.refused (subst (λ e. AllowsEffect e t) (here.0 ∙ sym there.0) (subst (AllowsEffect source) (here.1 ∙ sym there.1) allowed)),
      ),
)

module _ {C L : Type 0} {state : Ghosts C L} {old new : C} (keeps : Keeps state old new) where
  -- the effects stay the same when the circuit grows
  pub effects-kept : (read : List Bool) → state.admits old read → (rule : Rule) (typing : List ℕ) (setting : Setting) (choices : List (List L)) (source target : Blasted L) → All (All (state.has_literal old)) choices → IsOwnEffect (state.has_literal old) source → IsOwnEffect (state.has_literal old) target
      → HaveEffects rule typing setting (map (number_held (state.value old read)) choices) (effect_of (state.value old read) source) (effect_of (state.value old read) target)
      → HaveEffects rule typing setting (map (number_held (state.value new read)) choices) (effect_of (state.value new read) source) (effect_of (state.value new read) target)
  effects-kept read admitted rule typing setting choices source target own own_source own_target have =
      rw (numbers_held-kept keeps read admitted choices own, effect_of-kept keeps read admitted source own_source, effect_of-kept keeps read admitted target own_target) have

-- what holds in any case holds where a result is `Ok`
pub OnOk-always : {T E : Type 0} (r : Result T E) (P : Type 0) → P → OnOk r P
OnOk-always (Ok made) P holds = holds
OnOk-always (Err e) P holds = tt

-- the gates that were added, where making the inputs before added none
pub gates_within : (old one now total : ℕ) → one ≡ old → now ≤ one + total → now ≤ old + total
gates_within old one now total same added = omega arith

-- the gates of the first parts are within those of all
pub first_within : (given witness halves said refusal : ℕ) → given ≤ given + witness + halves + said + refusal + 1
first_within given witness halves said refusal = omega arith

pub second_within : (given witness halves said refusal : ℕ) → given + (witness + halves + said) ≤ given + witness + halves + said + refusal + 1
second_within given witness halves said refusal = omega arith

pub third_within : (given witness halves said refusal : ℕ) → given + (witness + halves + said) + (refusal + 1) ≤ given + witness + halves + said + refusal + 1
third_within given witness halves said refusal = omega arith
