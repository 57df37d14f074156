use Rattle.ir_reader.proofs.Common.{arith}
use Rattle.ir_reader.proofs.Sets.{adds_of_more}
use Rattle.ir_reader.proofs.predecessors.add_blocks.Goals as goal

pub loop-place-preserved : goal.loop-place-preserved
loop-place-preserved c =
    adds_of_more c.args.sets.now c.loop-place.sets c.add_end.new.sets c.args.blocks.now c.loop-place.place c.index-blocks-place.result (omega arith) c.index-blocks-place.is c.loop-place.invariant c.in_ok-add_end.ensures
