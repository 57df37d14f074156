use Rattle.fold_branch.proofs.Common.{refl}
use Rattle.fold_branch.proofs.Walking.{come_more}
use Rattle.fold_branch.proofs.walk.Walk.come_to_each.Goals as goal

pub loop-block-preserved : goal.loop-block-preserved
loop-block-preserved c = come_more c.args.blocks.now c.loop-block.block-index _ c.args.self.now c.loop-block.self c.come_to.new.self c.loop-block.invariant c.loop-block-test.true refl c.in_ok-come_to.ensures
