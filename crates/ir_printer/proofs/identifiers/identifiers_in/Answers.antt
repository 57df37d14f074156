use Rattle.ir_printer.proofs.Common.{◌≡◌, ℕ, length, map, ap, subst, arith, length-map, AreBlockStarts}
use Rattle.ir_printer.proofs.Identified.{all_identifiers, Adds-length}
use Rattle.ir_printer.proofs.identifiers.identifiers_in.Goals as goal

pub invariant_of-result : goal.invariant_of-result
invariant_of-result c =
    let f = c.args.function.now in
    let adds = rw c.as_slice.ensures at c.in_ok-next_number.ensures.adds in
    let first = Adds-length 0 (map (λ p. p.name) f.parameters) c.new-in_order.result.items c.add_parameters.new.in_order.items c.in_ok-next_number.next_number adds in
    let none : length c.new-in_order.result.items ≡ 0 = ap length c.new-in_order.ensures.items in
    let start : length c.add_parameters.new.in_order.items ≡ length f.parameters = omega (arith, first, none, length-map f.parameters (λ p. p.name)) in
    record {
      all_identifiers = all_identifiers f c.new-in_order.result.items c.add_parameters.new.in_order.items c.add_blocks.new.in_order.items c.in_ok-next_number.next_number c.new-in_order.ensures.items adds (rw c.as_slice-2.ensures at c.in_ok-starts.ensures.adds);
      all_starts = subst (λ (n : ℕ). AreBlockStarts n f.blocks c.in_ok-starts.starts.items) start (rw c.as_slice-2.ensures at c.in_ok-starts.ensures.starts);
    }
