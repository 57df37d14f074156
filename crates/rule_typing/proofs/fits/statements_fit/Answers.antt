use Rattle.rule_typing.proofs.Common.{ℕ, true, false, Statement, operands_of, FitsIn, LiteralsFit}
use Rattle.rule_typing.proofs.Among.{holds, fails, says, each_statement, one_further, each_passes, one_fails}
use Rattle.rule_typing.proofs.fits.statements_fit.Goals as goal

-- the literals of a statement fit
StatementFits : ℕ → ℕ → Statement → Type 0
StatementFits class N s = LiteralsFit (operands_of s.op) class N

pub returns-then-not-operands_fit : goal.returns-then-not-operands_fit
unfolding StatementFits
returns-then-not-operands_fit c =
    says false (one_fails (StatementFits c.args.class c.args.bits) c.args.statements.now c.loop-statement.statement-index c.statement-item.result c.statement-item.is c.loop-statement-test.true
    (fails c.operands_fit.result (rw (c.as_slice.ensures, c.of-operands.ensures) at c.operands_fit.ensures) c.if-not-operands_fit.true)) (each_statement (FitsIn c.args.class c.args.bits) c.args.statements.now)

pub loop-statement-preserved : goal.loop-statement-preserved
unfolding StatementFits
loop-statement-preserved c =
    one_further (StatementFits c.args.class c.args.bits) c.args.statements.now c.loop-statement.statement-index c.statement-item.result c.statement-item.is
    (holds c.operands_fit.result (rw (c.as_slice.ensures, c.of-operands.ensures) at c.operands_fit.ensures) c.if-not-operands_fit.false) c.loop-statement.invariant

pub returns : goal.returns
unfolding StatementFits
returns c =
    says true (each_passes (StatementFits c.args.class c.args.bits) c.args.statements.now c.loop-statement.statement-index c.loop-statement.invariant c.loop-statement-test.false)
    (each_statement (FitsIn c.args.class c.args.bits) c.args.statements.now)
