-- What exact counts of uses say of the registers of which one use is asked, and what else nodes ask.
use Rattle.bindings.proofs.Common.{◌≡◌, ◌↔◌, ℕ, Some, subst, slice_get, Contains, Function, Operand, Register, Formula, Rule, Known, count_of, IsUsedOnce, IsUseCount, count_of_one, use_counts_are_one, FactFollows, IsMet, AreFactsOf, Binding, FunctionFacts}
use Rattle.rule_core.specs.declared.rule.Formula.TheVariants as formulas

-- a count of one is exactly one use
one_is_once : (f : Function) (facts : FunctionFacts) → AreFactsOf f facts → (r : Register) → (count_of facts.uses r ≡ 1) ↔ IsUsedOnce f r
one_is_once f facts are r = (
  λ one. (count_of_one f r).0 (subst (λ (n : ℕ). IsUseCount f r n) one (are.uses.exact r)),
  λ once. use_counts_are_one f r (count_of facts.uses r) 1 (are.uses.exact r) ((count_of_one f r).1 once),
)

module _ (f : Function) (rule : Rule) (binding : Binding) (facts : FunctionFacts) (known : Operand → Known) (are : AreFactsOf f facts) where
  -- the formulas that ask for one use are met exactly where the registers have one
  pub uses_met : ((formula : Formula) → Contains rule.precondition formula → IsMet facts known rule binding formula)
      → (j : ℕ) (r : Register) → Contains rule.precondition (formulas.HasOneUse j) → slice_get binding.statements j ≡ Some r → IsUsedOnce f r
  uses_met met j r among at = (one_is_once f facts are r).0 (met (formulas.HasOneUse j) among r at)

  -- and what is said of bits is known of them
  pub fact_met : (formula : Formula) → IsMet facts known rule binding formula → FactFollows known rule binding formula
  fact_met (formulas.HasOneUse j) met = tt
  fact_met (formulas.MaskedValueIsZero r a) met = met
  fact_met (formulas.IsKnownNonZero r) met = met
  fact_met (formulas.Compare pred a b) met = tt
  fact_met (formulas.IsPowerOfTwo a) met = tt
  fact_met (formulas.IsSignBit a) met = tt
  fact_met (formulas.Not a) met = tt
  fact_met (formulas.And a b) met = tt
  fact_met (formulas.Or a b) met = tt

  pub all_asked : ((j : ℕ) (r : Register) → Contains rule.precondition (formulas.HasOneUse j) → slice_get binding.statements j ≡ Some r → IsUsedOnce f r)
      → ((formula : Formula) → Contains rule.precondition formula → FactFollows known rule binding formula)
      → (formula : Formula) → Contains rule.precondition formula → IsMet facts known rule binding formula
  all_asked used follow (formulas.HasOneUse j) among = λ r at. (one_is_once f facts are r).1 (used j r among at)
  all_asked used follow (formulas.MaskedValueIsZero r a) among = follow (formulas.MaskedValueIsZero r a) among
  all_asked used follow (formulas.IsKnownNonZero r) among = follow (formulas.IsKnownNonZero r) among
  all_asked used follow (formulas.Compare pred a b) among = tt
  all_asked used follow (formulas.IsPowerOfTwo a) among = tt
  all_asked used follow (formulas.IsSignBit a) among = tt
  all_asked used follow (formulas.Not a) among = tt
  all_asked used follow (formulas.And a b) among = tt
  all_asked used follow (formulas.Or a b) among = tt
