use Rattle.rewriter.proofs.Common.{length, subst}
use Rattle.rewriter.specs.Ready.{OpIsReady}
use Rattle.rewriter.proofs.insts.op_put.Goals as goal

pub operand_put-x-requires-clause-operand : goal.operand_put-x-requires-clause-operand
operand_put-x-requires-clause-operand c = (subst (OpIsReady c.args.rule.now c.args.binding.now (length c.args.results.now)) c.in-Binary.is c.requires.op).0

pub operand_put-requires-clause-operand : goal.operand_put-requires-clause-operand
operand_put-requires-clause-operand c = (subst (OpIsReady c.args.rule.now c.args.binding.now (length c.args.results.now)) c.in-Binary.is c.requires.op).1

pub class_width-width-requires : goal.class_width-width-requires
class_width-width-requires c = (subst (OpIsReady c.args.rule.now c.args.binding.now (length c.args.results.now)) c.in-Compare.is c.requires.op).0.class

pub operand_put-x-requires-in-Compare-clause-operand : goal.operand_put-x-requires-in-Compare-clause-operand
operand_put-x-requires-in-Compare-clause-operand c = (subst (OpIsReady c.args.rule.now c.args.binding.now (length c.args.results.now)) c.in-Compare.is c.requires.op).0

pub operand_put-requires-in-Compare-clause-operand : goal.operand_put-requires-in-Compare-clause-operand
operand_put-requires-in-Compare-clause-operand c = (subst (OpIsReady c.args.rule.now c.args.binding.now (length c.args.results.now)) c.in-Compare.is c.requires.op).1

pub operand_put-requires-in-Unary-clause-operand : goal.operand_put-requires-in-Unary-clause-operand
operand_put-requires-in-Unary-clause-operand c = subst (OpIsReady c.args.rule.now c.args.binding.now (length c.args.results.now)) c.in-Unary.is c.requires.op

pub operand_put-condition-requires-clause-operand : goal.operand_put-condition-requires-clause-operand
operand_put-condition-requires-clause-operand c = (subst (OpIsReady c.args.rule.now c.args.binding.now (length c.args.results.now)) c.in-Select.is c.requires.op).0

pub operand_put-x-requires-in-Select-clause-operand : goal.operand_put-x-requires-in-Select-clause-operand
operand_put-x-requires-in-Select-clause-operand c = (subst (OpIsReady c.args.rule.now c.args.binding.now (length c.args.results.now)) c.in-Select.is c.requires.op).1

pub operand_put-requires-in-Select-clause-operand : goal.operand_put-requires-in-Select-clause-operand
operand_put-requires-in-Select-clause-operand c = (subst (OpIsReady c.args.rule.now c.args.binding.now (length c.args.results.now)) c.in-Select.is c.requires.op).2

pub class_width-from-requires : goal.class_width-from-requires
class_width-from-requires c = (subst (OpIsReady c.args.rule.now c.args.binding.now (length c.args.results.now)) c.in-Convert.is c.requires.op).class

pub operand_put-requires-in-Convert-clause-operand : goal.operand_put-requires-in-Convert-clause-operand
operand_put-requires-in-Convert-clause-operand c = subst (OpIsReady c.args.rule.now c.args.binding.now (length c.args.results.now)) c.in-Convert.is c.requires.op

pub operand_put-requires-in-Freeze-clause-operand : goal.operand_put-requires-in-Freeze-clause-operand
operand_put-requires-in-Freeze-clause-operand c = subst (OpIsReady c.args.rule.now c.args.binding.now (length c.args.results.now)) c.in-Freeze.is c.requires.op
