use Rattle.rule_typing.proofs.Common.{operands_of, choices_of, OperandsLine, ChoicesLine}
use Rattle.rule_typing.proofs.Walks.{first_splits, then_splits}
use Rattle.rule_typing.proofs.lines.split_behind_op.Goals as goal

pub returns-in-Some : goal.returns-in-Some
returns-in-Some c =
    first_splits (OperandsLine c.args.rule.now (operands_of c.args.statement.now.op)) (ChoicesLine c.args.rule.now c.args.half (choices_of c.args.statement.now)) c.in-Some.pair
    (rw (c.as_slice.ensures, c.of-operands.ensures) at c.in-Some.ensures)

pub returns-in-None : goal.returns-in-None
returns-in-None c =
    then_splits (OperandsLine c.args.rule.now (operands_of c.args.statement.now.op)) (ChoicesLine c.args.rule.now c.args.half (choices_of c.args.statement.now)) c.split_by_choices.result
    (rw (c.as_slice.ensures, c.of-operands.ensures) at c.in-None.ensures)
    (rw (c.as_slice-in-None.ensures, c.of-choices.ensures) at c.split_by_choices.ensures)
