use Rattle.command_line.proofs.Common.{◌∙◌}
use Rattle.command_line.proofs.WidthLemmas.{items_fail, items_more}
use Rattle.command_line.proofs.widths.read_items.Goals as goal

pub returns-in_default : goal.returns-in_default
returns-in_default c = items_fail c.args.items.now c.loop-item.item-index _ c.loop-item-test.true c.read_item.result c.read_item.ensures c.in_default.is

pub loop-item-preserved : goal.loop-item-preserved
loop-item-preserved c =
    let more = items_more c.args.items.now c.loop-item.item-index _ c.loop-item-test.true c.read_item.result c.in-Some.span c.loop-item.spans.items c.read_item.ensures c.in-Some.is c.loop-item.invariant in
    (more.0, c.in_ok-push.ensures.items ∙ more.1)
