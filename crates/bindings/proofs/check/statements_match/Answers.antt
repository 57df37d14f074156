use Rattle.bindings.proofs.Common.{◌≡◌, ℕ, inl, inr, refl, sym, subst, Some, arith, slice_get, cases_eq, slice_get_within, holds, StatementMatches}
use Rattle.bindings.proofs.check.statements_match.Goals as goal

pub loop-j-preserved : goal.loop-j-preserved
loop-j-preserved c k s less at = elim (cases_eq k c.loop-j.j) [
  | inl same ↦
      subst (λ (i : ℕ). StatementMatches c.args.f.now c.args.rule.now c.args.binding.now i s) (sym same)
      (holds c.statement_matches.result c.statement_matches.ensures c.if-not-statement_matches.false s (subst (λ (i : ℕ). slice_get c.args.rule.now.source i ≡ Some s) same at))
  | inr other ↦ c.loop-j.invariant k s (omega arith) at
]

pub returns : goal.returns
returns c = (λ h j s at. c.loop-j.invariant j s (omega (arith, slice_get_within c.args.rule.now.source j s at)) at, λ h. refl)
