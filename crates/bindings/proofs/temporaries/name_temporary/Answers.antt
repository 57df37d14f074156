use Rattle.bindings.proofs.Common.{operands_of, Statement, holds, fails, one_further, stands_here, OneNamesAmong}
use Rattle.bindings.proofs.NamedTemporaries.{one_names, none_names}
use Rattle.bindings.proofs.temporaries.name_temporary.Goals as goal

pub returns-then-op_names_temporary : goal.returns-then-op_names_temporary
returns-then-op_names_temporary c =
    one_names c.args.measuring.now c.args.statements.now c.statement-item.result
    (stands_here c.args.statements.now c.loop-statement.statement-index c.statement-item.result c.statement-item.is c.loop-statement-test.true)
    (holds c.op_names_temporary.result c.op_names_temporary.ensures c.if-op_names_temporary.true)

pub loop-statement-preserved : goal.loop-statement-preserved
loop-statement-preserved c =
    one_further (λ (s : Statement). OneNamesAmong c.args.measuring.now (operands_of s.op) → ⊥) c.args.statements.now c.loop-statement.statement-index c.statement-item.result c.statement-item.is
    (fails c.op_names_temporary.result c.op_names_temporary.ensures c.if-op_names_temporary.false) c.loop-statement.invariant

pub returns : goal.returns
returns c = none_names c.args.measuring.now c.args.statements.now c.loop-statement.statement-index c.loop-statement.invariant c.loop-statement-test.false
