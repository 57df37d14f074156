use Rattle.ir_printer.proofs.Common.{◌≡◌, ◌++◌, take, flat_map, item_text}
use Rattle.ir_printer.proofs.header.push_items.Given as goal

abbrev pub invariant-loop-item : goal.invariant-loop-item
invariant-loop-item l = l.out.items ≡ l.fn.out.items ++ flat_map item_text (take l.item-index l.items)
