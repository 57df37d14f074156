use Rattle.ir_printer.proofs.Common.{◌≤◌, length, map, take, Adds}
use Rattle.ir_printer.proofs.identifiers.add_results.Given as goal

abbrev pub invariant-loop-inst : goal.invariant-loop-inst
invariant-loop-inst l = record {
  adds : Adds l.fn.next_number (map (λ i. i.name) (take l.inst-index l.insts)) l.fn.in_order.items l.in_order.items l.next_number;
  counted : l.next_number ≤ length l.in_order.items;
}
