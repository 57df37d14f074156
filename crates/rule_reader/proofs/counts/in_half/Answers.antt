use Rattle.rule_reader.proofs.Common.{◌∙◌, refl, arith}
use Rattle.rule_reader.proofs.Counting.{few_at, counts_more, counts_all}
use Rattle.rule_reader.proofs.counts.in_half.Goals as goal

pub loop-statement-init : goal.loop-statement-init
loop-statement-init c = refl

pub past_op-counts-requires : goal.past_op-counts-requires
past_op-counts-requires c = few_at c.args.statements.now c.loop-statement.statement-index c.statement-item.result c.loop-statement.counts c.requires (omega arith) c.statement-item.is c.loop-statement.invariant

pub loop-statement-preserved : goal.loop-statement-preserved
loop-statement-preserved c = c.past_op-counts.ensures ∙ counts_more c.args.statements.now c.loop-statement.statement-index c.statement-item.result c.loop-statement.counts (omega arith) c.statement-item.is c.loop-statement.invariant

pub returns : goal.returns
returns c = counts_all c.args.statements.now c.loop-statement.statement-index c.loop-statement.counts (omega arith) c.loop-statement.invariant
