use Rattle.blast_value.proofs.Common.{◌<◌, length, ap, ◌∙◌, arith, ◌≤◌, ◌+◌, number_of, map-kept, Keeps-trans, own_at, Adds-trans, Adds-weaken, select_gates}
use Rattle.blast_value.proofs.Effects.{chosen, chosen_number}
use Rattle.blast_value.proofs.comparison.choose.Goals as goal

pub returns-clause-effect : goal.returns-clause-effect
returns-clause-effect g c inputs admitted =
    let m = g.C.State in
    let value = m.value c.args.c.now inputs in
    let condition = c.args.condition.now in
    let literal = c.index-as_slice-0.result in
    let at_literal = rw c.as_slice.ensures at c.index-as_slice-0.is in
    let inside : 0 < length condition.bits = omega arith in
    let own = own_at (m.has_literal c.args.c.now) condition.bits 0 literal c.requires.own_condition.bits inside at_literal in
    let k1 = c.select.ensures.adds.keeps in
    let k2 = c.mux.ensures.adds.keeps in
    let k3 = c.or.ensures.adds.keeps in
    let at_1 = k1.admitted inputs admitted in
    let at_2 = k2.admitted inputs at_1 in
    let literal_1 = k1.values inputs literal admitted own in
    let poison_a = k1.values inputs c.args.a.now.poison admitted c.requires.own_a.poison in
    let poison_b = k1.values inputs c.args.b.now.poison admitted c.requires.own_b.poison in
    let poison_c = (Keeps-trans k1 k2).values inputs condition.poison admitted c.requires.own_condition.poison in
    let bits_3 = map-kept (Keeps-trans k2 k3) inputs at_1 c.in_ok-bits.bits c.in_ok-bits.ensures.own in
    let width = c.in_ok-bits.ensures.width ∙ ap length c.as_slice-2.ensures in
    let bits_is = bits_3 ∙ rw (c.as_slice-2.ensures, c.as_slice-3.ensures) at (c.in_ok-bits.ensures.values inputs admitted) in
    let numbers = chosen_number value (m.value c.or.new.c inputs) literal c.args.a.now.bits c.args.b.now.bits c.in_ok-bits.bits condition.bits bits_is c.requires.condition at_literal in
    rw width
    (chosen (value condition.poison) (value c.args.a.now.poison) (value c.args.b.now.poison) _ _ (value literal) (length c.args.a.now.bits) _ _ (number_of value c.args.a.now.bits) (number_of value c.args.b.now.bits) _ _ (c.zero.ensures.value inputs (k3.admitted inputs at_2))
    (rw (c.in_ok-operand.ensures.value inputs at_1, literal_1, poison_a, poison_b, poison_c) at (c.in_ok-poison.ensures.value inputs at_2))
    numbers.0 numbers.1 c.requires.same_width)

pub returns-in_err-bits-clause-adds : goal.returns-in_err-bits-clause-adds
returns-in_err-bits-clause-adds g c =
    let few : select_gates (length c.as_slice-2.result.now) ≤ select_gates (length c.args.a.now.bits) + 2 = rw c.as_slice-2.ensures (omega arith) in
    Adds-weaken c.select.ensures.adds few

pub returns-in_err-operand-clause-adds : goal.returns-in_err-operand-clause-adds
returns-in_err-operand-clause-adds g c =
    let few : select_gates (length c.as_slice-2.result.now) + 1 ≤ select_gates (length c.args.a.now.bits) + 2 = rw c.as_slice-2.ensures (omega arith) in
    Adds-weaken (Adds-trans c.select.ensures.adds c.mux.ensures.adds) few

pub returns-in_err-poison-clause-adds : goal.returns-in_err-poison-clause-adds
returns-in_err-poison-clause-adds g c =
    let few : select_gates (length c.as_slice-2.result.now) + 1 + 1 ≤ select_gates (length c.args.a.now.bits) + 2 = rw c.as_slice-2.ensures (omega arith) in
    Adds-weaken (Adds-trans (Adds-trans c.select.ensures.adds c.mux.ensures.adds) c.or.ensures.adds) few

pub returns-clause-adds : goal.returns-clause-adds
returns-clause-adds g c =
    let few : select_gates (length c.as_slice-2.result.now) + 1 + 1 ≤ select_gates (length c.args.a.now.bits) + 2 = rw c.as_slice-2.ensures (omega arith) in
    Adds-weaken (Adds-trans (Adds-trans c.select.ensures.adds c.mux.ensures.adds) c.or.ensures.adds) few
