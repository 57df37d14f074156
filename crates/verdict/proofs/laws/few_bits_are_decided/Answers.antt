use Rattle.verdict.proofs.Common.{◌≡◌, ℕ, ◌≤◌, List, refl, arith, ◌↔◌, Rule, Example, IsValid, Verdict, Admitted, Refuted, WitnessFails, Budget, IsHonest, IsRefutedBy, setting_in}
use Rattle.blast_rule.specs.Inputs.{input_bits}
use Rattle.verdict.proofs.laws.few_bits_are_decided.Goals as goal

-- a valid rule is refuted by no example
not_refuted : (rule : Rule) (typing : List ℕ) → IsValid rule typing → (example : Example) → ¬ (IsRefutedBy rule typing example)
not_refuted rule typing valid example by =
    by.refused (valid (setting_in example) example.source_undefs example.source example.target by.counts by.effects)

decided : (rule : Rule) (typing : List ℕ) (limit : ℕ) (verdict : Verdict) → input_bits rule typing ≤ 12 → IsHonest rule typing limit verdict → ((verdict ≡ Admitted) ↔ IsValid rule typing)
decided rule typing limit Admitted few honest = ((λ same. honest), (λ valid. refl))
decided rule typing limit (Refuted example) few honest = ((λ same. cc), (λ valid. absurd (not_refuted rule typing valid example honest.0)))
decided rule typing limit (WitnessFails example) few honest = ((λ same. cc), (λ valid. absurd (not_refuted rule typing valid example honest.0)))
decided rule typing limit (Budget tried) few honest = absurd (omega (arith, few, honest.many_bits))

pub returns : goal.returns
returns c = decided
