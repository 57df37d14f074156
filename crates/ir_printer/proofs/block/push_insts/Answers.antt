use Rattle.ir_printer.proofs.Common.{◌++◌, ap, ◌∙◌, flat_map, inst_text}
use Rattle.ir_printer.proofs.Printed.{each_placed_more, take_placed}
use Rattle.ir_printer.proofs.block.push_insts.Goals as goal

pub loop-place-preserved : goal.loop-place-preserved
loop-place-preserved c =
    each_placed_more (inst_text c.args.called.now.function.now c.args.block) c.args.out.now.items _ _ c.args.insts.now c.loop-place.place c.index-insts-place.result c.loop-place-test.true c.index-insts-place.is c.loop-place.invariant c.in_ok-push_inst.ensures

pub returns : goal.returns
returns c = c.loop-place.invariant ∙ ap (λ xs. c.args.out.now.items ++ flat_map (inst_text c.args.called.now.function.now c.args.block) xs) (take_placed c.args.insts.now c.loop-place.place c.loop-place-test.false)
