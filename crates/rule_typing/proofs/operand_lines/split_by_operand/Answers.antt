use Rattle.rule_typing.proofs.Common.{◌≡◌, Some, Name, Names, IsPairIn, operand_pairs, operand_naming}
use Rattle.rule_typing.proofs.Walks.{first_splits, then_splits}
use Rattle.rule_typing.proofs.operand_lines.split_by_operand.Goals as goal

pub returns-in-Some : goal.returns-in-Some
returns-in-Some c =
    first_splits (IsPairIn (operand_pairs c.args.rule.now c.args.operand)) (λ x d. (n : Name) × (operand_naming c.args.operand ≡ Some (n, x)) × Names c.args.rule.now n d) c.in-Some.pair
    (rw c.term_class-term.ensures at c.in-Some.ensures)

pub returns-in-None : goal.returns-in-None
returns-in-None c =
    then_splits (IsPairIn (operand_pairs c.args.rule.now c.args.operand)) (λ x d. (n : Name) × (operand_naming c.args.operand ≡ Some (n, x)) × Names c.args.rule.now n d) c.split_by_name.result
    (rw c.term_class-term.ensures at c.in-None.ensures) (rw c.operand_naming.ensures at c.split_by_name.ensures)
