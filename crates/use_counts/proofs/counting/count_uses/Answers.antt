use Rattle.use_counts.proofs.Common.{arith}
use Rattle.use_counts.proofs.Places.{all_past}
use Rattle.use_counts.proofs.counting.count_uses.Goals as goal

pub returns : goal.returns
returns c = all_past c.args.f.now c.loop-block.block c.loop-block.uses (omega arith) c.loop-block.invariant
