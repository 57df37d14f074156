use Rattle.ir_printer.proofs.Common.{item_text}
use Rattle.ir_printer.proofs.Printed.{each_more}
use Rattle.ir_printer.proofs.header.push_items.Goals as goal

pub loop-item-preserved : goal.loop-item-preserved
loop-item-preserved c =
    each_more item_text c.args.out.now.items _ _ c.args.items.now c.loop-item.item-index c.item-item.result c.loop-item-test.true c.item-item.is c.loop-item.invariant c.in_ok-push_item.ensures
