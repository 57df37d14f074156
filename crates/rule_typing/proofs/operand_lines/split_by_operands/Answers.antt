use Rattle.rule_typing.proofs.Common.{LineOf, operand_pairs, operand_naming}
use Rattle.rule_typing.proofs.Walks.{AreOne, split_here, none_splits}
use Rattle.rule_typing.proofs.Among.{one_further}
use Rattle.rule_typing.proofs.operand_lines.split_by_operands.Goals as goal

pub returns-in-Some : goal.returns-in-Some
returns-in-Some c = split_here (LineOf c.args.rule.now (operand_pairs c.args.rule.now) operand_naming) c.args.operands.now c.loop-operand.operand-index c.operand-item.result c.in-Some.pair c.operand-item.is c.loop-operand-test.true c.in-Some.ensures

pub loop-operand-preserved : goal.loop-operand-preserved
loop-operand-preserved c = one_further (λ x. AreOne ((LineOf c.args.rule.now (operand_pairs c.args.rule.now) operand_naming) x)) c.args.operands.now c.loop-operand.operand-index c.operand-item.result c.operand-item.is c.in_default.ensures c.loop-operand.invariant

pub returns : goal.returns
returns c = none_splits (LineOf c.args.rule.now (operand_pairs c.args.rule.now) operand_naming) c.args.operands.now c.loop-operand.operand-index c.loop-operand.invariant c.loop-operand-test.false
