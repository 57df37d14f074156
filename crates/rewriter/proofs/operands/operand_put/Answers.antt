use Rattle.rewriter.proofs.TargetReads.{width_positive}
use Rattle.rewriter.proofs.operands.operand_put.Goals as goal

pub argument_put-requires-clause-width : goal.argument_put-requires-clause-width
argument_put-requires-clause-width c = width_positive c.args.rule.now c.args.binding.now c.args.operand.class c.class_width-width.result c.requires.bound c.requires.operand.class c.class_width-width.ensures
