use Rattle.changes.proofs.Common.{arith, IsIn}
use Rattle.changes.proofs.InOrder.{all_past}
use Rattle.changes.proofs.listing.marked.Goals as goal

pub returns : goal.returns
returns c = all_past c.args.f.now (IsIn c.args.marks.now) c.loop-block.block c.loop-block.places (omega arith) c.loop-block.invariant
