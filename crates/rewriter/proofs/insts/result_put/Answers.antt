use Rattle.rewriter.proofs.Common.{length, subst}
use Rattle.rewriter.specs.Ready.{OpIsReady}
use Rattle.rewriter.proofs.insts.result_put.Goals as goal

pub operand_put-requires-clause-operand : goal.operand_put-requires-clause-operand
operand_put-requires-clause-operand c = subst (OpIsReady c.args.rule.now c.args.binding.now (length c.args.results.now)) c.in-Copy.is c.requires.statement.op
