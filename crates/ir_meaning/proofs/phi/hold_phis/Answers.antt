use Rattle.ir_meaning.proofs.Common.{◌∙◌, held_of}
use Rattle.ir_meaning.proofs.Following.{holding_next}
use Rattle.ir_meaning.proofs.phi.hold_phis.Goals as goal

pub loop-k-preserved : goal.loop-k-preserved
loop-k-preserved c = record {
  table = c.set.ensures.table;
  held = rw c.set.ensures.held (holding_next (held_of c.args.f.now c.loop-k.table.values.items) c.args.b c.loop-k.k c.args.taken.now c.index-taken-k.result c.loop-k-test.true c.index-taken-k.is ∙ c.loop-k.invariant.held);
}
