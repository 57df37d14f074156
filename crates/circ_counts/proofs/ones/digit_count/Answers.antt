use Rattle.circ_counts.proofs.Common.{◌+◌, arith, stages-none, stages-is}
use Rattle.circ_counts.proofs.ones.digit_count.Goals as goal

pub returns-then-most-eq0 : goal.returns-then-most-eq0
returns-then-most-eq0 c = stages-none (c.args.most + 1) (omega arith)

pub returns-else-most-eq0 : goal.returns-else-most-eq0
returns-else-most-eq0 c = stages-is (c.args.most + 1) c.ilog2.result (omega arith) (omega arith)
