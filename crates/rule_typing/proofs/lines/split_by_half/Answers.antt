use Rattle.rule_typing.proofs.Common.{StatementLine}
use Rattle.rule_typing.proofs.Walks.{AreOne, split_here, none_splits}
use Rattle.rule_typing.proofs.Among.{one_further}
use Rattle.rule_typing.proofs.lines.split_by_half.Goals as goal

pub returns-in-Some : goal.returns-in-Some
returns-in-Some c = split_here (StatementLine c.args.rule.now c.args.half) c.args.statements.now c.loop-statement.statement-index c.statement-item.result c.in-Some.pair c.statement-item.is c.loop-statement-test.true c.in-Some.ensures

pub loop-statement-preserved : goal.loop-statement-preserved
loop-statement-preserved c = one_further (λ x. AreOne ((StatementLine c.args.rule.now c.args.half) x)) c.args.statements.now c.loop-statement.statement-index c.statement-item.result c.statement-item.is c.in_default.ensures c.loop-statement.invariant

pub returns : goal.returns
returns c = none_splits (StatementLine c.args.rule.now c.args.half) c.args.statements.now c.loop-statement.statement-index c.loop-statement.invariant c.loop-statement-test.false
