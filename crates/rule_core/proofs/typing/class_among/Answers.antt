use Rattle.rule_core.proofs.Common.{classes_of_statement}
use Rattle.rule_core.proofs.Members.{get-flat_map}
use Rattle.rule_core.proofs.typing.class_among.Goals as goal

pub returns-in-Ok : goal.returns-in-Ok
returns-in-Ok c =
    rw c.loop-statement.invariant
    (get-flat_map classes_of_statement c.args.statements.now c.loop-statement.statement-index c.statement-item.result c.loop-statement.rest c.in-Ok.class
    c.loop-statement-test.true c.statement-item.is c.in-Ok.ensures)
