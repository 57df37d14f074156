use Rattle.ir_meaning.proofs.Common.{IsValueOf-selection}
use Rattle.ir_meaning.proofs.instruction.instruction.Goals as goal

pub returns-in-Select-clause-width : goal.returns-in-Select-clause-width
returns-in-Select-clause-width c =
    rw c.choose.ensures (IsValueOf-selection c.args.width c.operand-condition.result c.operand-chosen.result c.operand-other.result c.operand-chosen.ensures.width c.operand-other.ensures.width)
