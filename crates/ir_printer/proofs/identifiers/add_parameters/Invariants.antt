use Rattle.ir_printer.proofs.Common.{◌≤◌, length, map, take, Adds}
use Rattle.ir_printer.proofs.identifiers.add_parameters.Given as goal

abbrev pub invariant-loop-parameter : goal.invariant-loop-parameter
invariant-loop-parameter l = record {
  adds : Adds 0 (map (λ p. p.name) (take l.parameter-index l.parameters)) l.fn.in_order.items l.in_order.items l.next_number;
  counted : l.next_number ≤ length l.in_order.items;
}
