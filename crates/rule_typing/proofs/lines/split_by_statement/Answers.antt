use Rattle.rule_typing.proofs.Common.{◌⊎◌, operands_of, choices_of, IsPairIn, statement_pairs, OperandsLine, ChoicesLine}
use Rattle.rule_typing.proofs.Walks.{then_splits}
use Rattle.rule_typing.proofs.lines.split_by_statement.Goals as goal

pub returns-in-None : goal.returns-in-None
returns-in-None c =
    then_splits (IsPairIn (statement_pairs c.args.statement.now))
    (λ x d. OperandsLine c.args.rule.now (operands_of c.args.statement.now.op) x d ⊎ ChoicesLine c.args.rule.now c.args.half (choices_of c.args.statement.now) x d)
    c.split_behind_op.result c.in-None.ensures c.split_behind_op.ensures
