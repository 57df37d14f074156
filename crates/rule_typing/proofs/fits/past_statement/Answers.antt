use Rattle.rule_typing.proofs.Common.{◌+◌, arith}
use Rattle.rule_typing.proofs.Past.{past_two, past_three, past_four}
use Rattle.rule_typing.proofs.fits.past_statement.Goals as goal
use Rattle.rule_typing.proofs.fits.past_statement.Goals.{in-Binary, in-Compare, in-Unary, in-Select, in-Convert, in-Freeze, in-Copy}

pub returns : goal.returns
returns c =
    elim c.match-statement.branch [
      | in-Binary w ↦ rw w.in-Binary.is (past_three c.args.statement.now.class w.in-Binary.left.class w.in-Binary.right.class (c.match-statement.class + 1) (omega arith))
      | in-Compare w ↦ rw w.in-Compare.is (past_three c.args.statement.now.class w.in-Compare.left.class w.in-Compare.right.class (c.match-statement.class + 1) (omega arith))
      | in-Unary w ↦ rw w.in-Unary.is (past_two c.args.statement.now.class w.in-Unary.operand.class (c.match-statement.class + 1) (omega arith))
      | in-Select w ↦ rw w.in-Select.is
          (past_four c.args.statement.now.class w.in-Select.condition.class w.in-Select.yes.class w.in-Select.no.class (c.match-statement.class + 1) (omega arith))
      | in-Convert w ↦ rw w.in-Convert.is (past_two c.args.statement.now.class w.in-Convert.operand.class (c.match-statement.class + 1) (omega arith))
      | in-Freeze w ↦ rw w.in-Freeze.is (past_two c.args.statement.now.class w.in-Freeze.operand.class (c.match-statement.class + 1) (omega arith))
      | in-Copy w ↦ rw w.in-Copy.is (past_two c.args.statement.now.class w.in-Copy.operand.class (c.match-statement.class + 1) (omega arith))
    ]
