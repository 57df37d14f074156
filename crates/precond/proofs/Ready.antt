-- Each node of a precondition can be evaluated once the terms and the nodes before it have been.
use Rattle.precond.proofs.Common.{◌≡◌, ℕ, pos, ◌<◌, List, length, Some, sym, ◌∙◌, arith, get_or, slice_get, slice_get-get_or, Number, Value, Poison, Rule, Term, Formula, compared_terms, IsTyping, IsRule, MayBeFormula, ConstantsFit, constant_values, Contains-from_get, term_class_stands, constant_term, class_width, constant_values_fit, CanBeRead, AreReady}
use Rattle.rule_core.specs.declared.rule.Node.TheVariants as nodes
use Rattle.rule_core.specs.declared.rule.Formula.TheVariants as formulas

module _ (rule : Rule) (typing : List ℕ) (constants : List Number) (checked : IsRule rule) (typed : IsTyping rule typing) (fits : ConstantsFit rule typing constants) where
  node_at : (a : ℕ) → a < length rule.terms → (t : Term) × (slice_get rule.terms a ≡ Some t)
  node_at a within =
      let literal : Term = record { class = 0; node = nodes.Literal (pos 0) } in
      (get_or rule.terms a literal, slice_get-get_or rule.terms a literal within)

  can_be_read : (n : ℕ) (f : Formula) → slice_get rule.precondition n ≡ Some f → MayBeFormula rule n f → CanBeRead (constant_values typing constants rule) n f
  can_be_read n (formulas.Compare pred a b) at may =
      let values : List Value = constant_values typing constants rule in
      let fit = constant_values_fit rule typing constants checked typed fits in
      let x = node_at a may.0 in
      let y = node_at b may.1 in
      let N = class_width rule typing (x.0).class typed (term_class_stands rule x.0 (constant_term rule a x.0 x.1)) in
      let same : slice_get typing (x.0).class ≡ slice_get typing (y.0).class = typed.same (x.0).class (y.0).class (compared_terms (Contains-from_get rule.precondition n (formulas.Compare pred a b) at) x.1 y.1) in
      let v : Value = get_or values a Poison in
      let w : Value = get_or values b Poison in
      let at_v : slice_get values a ≡ Some v = slice_get-get_or values a Poison (omega (arith, fit.0, may.0)) in
      let at_w : slice_get values b ≡ Some w = slice_get-get_or values b Poison (omega (arith, fit.0, may.1)) in
      (N.0, v, w, at_v, at_w, fit.1 a x.0 v N.0 x.1 at_v N.1, fit.1 b y.0 w N.0 y.1 at_w (sym same ∙ N.1))
  can_be_read n (formulas.IsPowerOfTwo a) at may = omega (arith, (constant_values_fit rule typing constants checked typed fits).0)
  can_be_read n (formulas.IsSignBit a) at may = omega (arith, (constant_values_fit rule typing constants checked typed fits).0)
  can_be_read n (formulas.HasOneUse k) at may = tt
  can_be_read n (formulas.MaskedValueIsZero r a) at may = tt
  can_be_read n (formulas.IsKnownNonZero r) at may = tt
  can_be_read n (formulas.Not a) at may = may
  can_be_read n (formulas.And a b) at may = may
  can_be_read n (formulas.Or a b) at may = may

  pub formulas_ready : AreReady (constant_values typing constants rule) rule.precondition
  formulas_ready n f at = can_be_read n f at (checked.precondition n f at)
