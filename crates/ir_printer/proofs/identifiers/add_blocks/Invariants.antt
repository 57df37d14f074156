use Rattle.ir_printer.proofs.Common.{◌≤◌, length, take, flat_map, block_names, Adds, AreBlockStarts}
use Rattle.ir_printer.proofs.identifiers.add_blocks.Given as goal

abbrev pub invariant-loop-block : goal.invariant-loop-block
invariant-loop-block l = record {
  adds : Adds l.fn.next_number (flat_map block_names (take l.block-index l.blocks)) l.fn.in_order.items l.in_order.items l.next_number;
  counted : l.next_number ≤ length l.in_order.items;
  starts : AreBlockStarts (length l.fn.in_order.items) (take l.block-index l.blocks) l.starts.items;
}
