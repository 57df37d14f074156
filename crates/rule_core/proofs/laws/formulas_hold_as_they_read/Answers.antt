use Rattle.rule_core.proofs.Common.{◌≡◌, ℕ, ◌<◌, Bool, false, List, [], length, refl, ap, ◌∙◌, zero-add, not, ◌&&◌, ◌||◌, slice_index_or, Value, Formula, FormulaReadsBefore, formula_holds}
use Rattle.rule_core.specs.declared.rule.Formula.TheVariants as formulas
use Rattle.rule_core.proofs.Turns.{in_turn-length, settled}
use Rattle.rule_core.proofs.laws.formulas_hold_as_they_read.Goals as goal

-- whether a node holds is the same from truths that agree at its operands
agree : (values : List Value) (some all : List Bool) (n : ℕ) (f : Formula) → ((j : ℕ) → j < n → slice_index_or some j false ≡ slice_index_or all j false) → FormulaReadsBefore n f
    → formula_holds values some f ≡ formula_holds values all f
agree values some all n (formulas.Not a) same before = ap not (same a before)
agree values some all n (formulas.And a b) same before =
    ap (λ p. p && slice_index_or some b false) (same a before.0) ∙ ap (λ p. slice_index_or all a false && p) (same b before.1)
agree values some all n (formulas.Or a b) same before =
    ap (λ p. p || slice_index_or some b false) (same a before.0) ∙ ap (λ p. slice_index_or all a false || p) (same b before.1)
agree values some all n f same before = refl

pub returns : goal.returns
returns c = λ values formulas before. (
  in_turn-length (formula_holds values) [] formulas ∙ zero-add (length formulas),
  λ n f at. settled (formula_holds values) formulas n f at
      (λ some all same. agree values some all n f (λ j less. same j false less) (before n f at)),
)
