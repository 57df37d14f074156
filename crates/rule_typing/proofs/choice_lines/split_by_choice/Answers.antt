use Rattle.rule_typing.proofs.Common.{◌≡◌, Some, Name, Names, IsPairIn, choice_pairs, choice_naming}
use Rattle.rule_typing.proofs.Walks.{first_splits, then_splits}
use Rattle.rule_typing.proofs.choice_lines.split_by_choice.Goals as goal

pub returns-in-Some : goal.returns-in-Some
returns-in-Some c =
    first_splits (IsPairIn (choice_pairs c.args.rule.now c.args.half c.args.choice)) (λ x d. (n : Name) × (choice_naming c.args.half c.args.choice ≡ Some (n, x)) × Names c.args.rule.now n d) c.in-Some.pair
    c.in-Some.ensures

pub returns-in-None : goal.returns-in-None
returns-in-None c =
    then_splits (IsPairIn (choice_pairs c.args.rule.now c.args.half c.args.choice)) (λ x d. (n : Name) × (choice_naming c.args.half c.args.choice ≡ Some (n, x)) × Names c.args.rule.now n d) c.split_by_name.result
    c.in-None.ensures (rw c.choice_naming.ensures at c.split_by_name.ensures)
