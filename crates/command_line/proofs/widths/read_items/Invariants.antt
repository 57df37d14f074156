use Rattle.command_line.proofs.Common.{◌≡◌, true, map, take, list_all, is_item, span_in}
use Rattle.command_line.proofs.widths.read_items.Given as goal

abbrev pub invariant-loop-item : goal.invariant-loop-item
invariant-loop-item l = (list_all (λ item. is_item item.now) (take l.item-index l.items) ≡ true) × (l.spans.items ≡ map (λ item. span_in item.now) (take l.item-index l.items))
