use Rattle.rule_typing.proofs.Common.{◌≡◌, Some, Name, Names, IsPairIn, formula_pairs, formula_naming}
use Rattle.rule_typing.proofs.Walks.{then_splits}
use Rattle.rule_typing.proofs.term_lines.split_by_formula.Goals as goal

pub returns-in-None : goal.returns-in-None
returns-in-None c =
    then_splits (IsPairIn (formula_pairs c.args.terms.now c.args.formula)) (λ x d. (n : Name) × (formula_naming c.args.terms.now c.args.formula ≡ Some (n, x)) × Names c.args.rule.now n d) c.split_by_name.result c.in-None.ensures
    (rw c.formula_naming.ensures at c.split_by_name.ensures)
