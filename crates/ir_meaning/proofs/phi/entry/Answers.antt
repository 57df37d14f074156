use Rattle.ir_meaning.proofs.Following.{later_entry}
use Rattle.ir_meaning.proofs.phi.entry.Goals as goal

pub loop-read-preserved : goal.loop-read-preserved
loop-read-preserved c =
    later_entry c.args.entries.now c.loop-read.read-index c.loop-read-item.result c.args.from c.loop-read-test.true c.loop-read-item.is c.if-block-from.false c.loop-read.invariant
