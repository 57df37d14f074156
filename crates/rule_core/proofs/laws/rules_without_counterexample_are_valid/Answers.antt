use Rattle.rule_core.proofs.Common.{◌≡◌, ℕ, ◌⊎◌, inl, inr, ap, sym, ◌∙◌, cases_eq, Number, AllowsValue, AllowsEffect, Value, Poison, Bits, Effect, Undefined, Gives}
use Rattle.rule_core.proofs.laws.rules_without_counterexample_are_valid.Goals as goal

same_number : (a b : Number) → a.width ≡ b.width → a.number ≡ b.number → Bits b ≡ Bits a
same_number a b e f =
    let made : ℕ → ℕ → Value = λ N n. Bits (record { width = N; number = n }) in
    ap (λ N. made N b.number) (sym e) ∙ ap (λ n. made a.width n) (sym f)

-- whether a value allows another is decided
allows_value : (v w : Value) → AllowsValue v w ⊎ (AllowsValue v w → ⊥)
allows_value Poison w = inl tt
allows_value (Bits a) Poison = inr (λ h. cc)
allows_value (Bits a) (Bits b) =
    elim (cases_eq a.width b.width) [
      | inr other ↦ inr (λ h. other cc)
      | inl width ↦ elim (cases_eq a.number b.number) [ inr other ↦ inr (λ h. other cc) | inl number ↦ inl (same_number a b width number) ]
    ]

-- and whether an effect allows another
allows_effect : (d e : Effect) → AllowsEffect d e ⊎ (AllowsEffect d e → ⊥)
allows_effect Undefined e = inl tt
allows_effect (Gives v) Undefined = inr (λ h. h)
allows_effect (Gives v) (Gives w) = allows_value v w

pub returns : goal.returns
returns c = λ rule typing none setting choices source target counts have.
    elim (allows_effect source target) [
      | inl allowed ↦ allowed
      | inr refused ↦ absurd (none setting choices source target (record { counts = counts; effects = have; refused = refused }))
    ]
