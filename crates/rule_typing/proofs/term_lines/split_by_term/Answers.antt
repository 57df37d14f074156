use Rattle.rule_typing.proofs.Common.{◌≡◌, Some, Name, Names, IsPairIn, term_pairs, term_naming}
use Rattle.rule_typing.proofs.Walks.{then_splits}
use Rattle.rule_typing.proofs.term_lines.split_by_term.Goals as goal

pub returns-in-None : goal.returns-in-None
returns-in-None c =
    then_splits (IsPairIn (term_pairs c.args.terms.now c.args.term)) (λ x d. (n : Name) × (term_naming c.args.term ≡ Some (n, x)) × Names c.args.rule.now n d) c.split_by_name.result c.in-None.ensures
    (rw c.term_naming.ensures at c.split_by_name.ensures)
