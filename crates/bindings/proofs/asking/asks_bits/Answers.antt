use Rattle.bindings.proofs.Common.{◌≡◌, ℕ, List, Some, inl, inr, arith, sym, subst, slice_get, Contains, Formula, SaysOf, cases_lt, fails, get_or_from_slice_get, place_in, slice_get_within}
use Rattle.bindings.proofs.asking.asks_bits.Goals as goal

pub loop-formula-preserved : goal.loop-formula-preserved
loop-formula-preserved c k x lt at r says = elim (cases_lt k c.loop-formula.formula-index) [
  | inl earlier ↦ c.loop-formula.invariant k x earlier at r says
  | inr past ↦
      let same : k ≡ c.loop-formula.formula-index = omega (arith, lt, past) in
      let here : slice_get c.as_slice-formula-items.result.now c.loop-formula.formula-index ≡ Some x = subst (λ (i : ℕ). slice_get c.as_slice-formula-items.result.now i ≡ Some x) same at in
      fails c.says_bits.result c.says_bits.ensures c.if-says_bits.false (r, subst (SaysOf r) (sym (get_or_from_slice_get c.as_slice-formula-items.result.now c.loop-formula.formula-index x _ here)) says)
]

pub returns : goal.returns
returns c = (
  λ h. absurd cc,
  λ (r, asks).
      let (formula, among, says) = asks in
      let here : Contains c.as_slice-formula-items.result.now formula = subst (λ (l : List Formula). Contains l formula) (sym c.as_slice-formula-items.ensures) among in
      let (n, at) = place_in c.as_slice-formula-items.result.now formula here in
      absurd (c.loop-formula.invariant n formula (omega (arith, slice_get_within c.as_slice-formula-items.result.now n formula at, c.loop-formula-test.false)) at r says),
)
