use Rattle.ir_printer.proofs.Common.{◌++◌, ap, ◌∙◌, flat_map, block_text}
use Rattle.ir_printer.proofs.Printed.{each_placed_more, take_placed}
use Rattle.ir_printer.proofs.block.push_blocks.Goals as goal

pub loop-place-preserved : goal.loop-place-preserved
loop-place-preserved c =
    each_placed_more (block_text c.args.called.now.function.now) c.args.out.now.items _ _ c.args.blocks.now c.loop-place.place c.index-blocks-place.result c.loop-place-test.true c.index-blocks-place.is c.loop-place.invariant c.in_ok-push_block.ensures

pub returns : goal.returns
returns c = c.loop-place.invariant ∙ ap (λ xs. c.args.out.now.items ++ flat_map (block_text c.args.called.now.function.now) xs) (take_placed c.args.blocks.now c.loop-place.place c.loop-place-test.false)
