use Rattle.ir_resolve.proofs.Common.{arith, BlockClashesAt}
use Rattle.ir_resolve.proofs.Firsts.{first_more, first_all}
use Rattle.ir_resolve.proofs.types.block_clash.Goals as goal

pub loop-block-preserved : goal.loop-block-preserved
loop-block-preserved c =
    first_more (BlockClashesAt c.args.returned) c.args.blocks.now c.loop-block.block-index c.block-item.result _ _ _ (omega arith) c.block-item.is c.loop-block.invariant c.clash_in_block.ensures c.lesser-found.ensures

pub returns : goal.returns
returns c = first_all (BlockClashesAt c.args.returned) c.args.blocks.now _ _ (omega arith) c.loop-block.invariant
