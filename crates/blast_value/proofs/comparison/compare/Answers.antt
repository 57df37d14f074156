use Rattle.blast_value.proofs.Common.{◌∙◌, ◌≤◌, ◌+◌, length, arith, map-kept, Keeps-trans, Adds-trans, Adds-weaken, comparison_gates, sign_gates}
use Rattle.blast_value.proofs.Effects.{compared}
use Rattle.blast_value.proofs.comparison.compare.Goals as goal

pub returns-clause-effect : goal.returns-clause-effect
returns-clause-effect g c inputs admitted =
    let m = g.C.State in
    let k1 = c.holds.ensures.adds.keeps in
    let k2 = c.signs_differ.ensures.adds.keeps in
    let k3 = c.or.ensures.adds.keeps in
    let k4 = c.or-2.ensures.adds.keeps in
    let to_2 = Keeps-trans k1 k2 in
    let at_1 = k1.admitted inputs admitted in
    let at_2 = k2.admitted inputs at_1 in
    let at_3 = k3.admitted inputs at_2 in
    let at_4 = k4.admitted inputs at_3 in
    let a_1 = map-kept k1 inputs admitted c.args.a.now.bits c.requires.own_a.bits in
    let b_1 = map-kept k1 inputs admitted c.args.b.now.bits c.requires.own_b.bits in
    let poison_a = to_2.values inputs c.args.a.now.poison admitted c.requires.own_a.poison in
    let poison_b = to_2.values inputs c.args.b.now.poison admitted c.requires.own_b.poison in
    let operands = rw (poison_a, poison_b) at (c.in_ok-operands.ensures.value inputs at_2) in
    let differ_kept = k3.values inputs c.in_ok-differ.differ at_2 c.in_ok-differ.ensures.own in
    let truth_kept = (Keeps-trans (Keeps-trans k2 k3) k4).values inputs c.in_ok-truth.truth at_1 c.in_ok-truth.ensures.own in
    compared (m.value c.or-2.new.c inputs) c.in_ok-repeated.field-0 c.in_ok-truth.truth c.args.pred c.args.samesign _ _ _ _ _ _ _ _ _ c.in_ok-repeated.ensures c.requires.same_width
    (c.zero.ensures.value inputs at_4)
    (rw (operands, differ_kept) at (c.in_ok-poison.ensures.value inputs at_3))
    (rw (a_1, b_1) at (c.in_ok-differ.ensures.value inputs at_1))
    (truth_kept ∙ c.in_ok-truth.ensures.value inputs admitted)

pub returns-in_err-truth-clause-adds : goal.returns-in_err-truth-clause-adds
returns-in_err-truth-clause-adds g c =
    let few : comparison_gates (length c.args.a.now.bits) ≤ comparison_gates (length c.args.a.now.bits) + sign_gates = omega arith in
    Adds-weaken c.holds.ensures.adds few

pub returns-in_err-differ-clause-adds : goal.returns-in_err-differ-clause-adds
returns-in_err-differ-clause-adds g c =
    let few : comparison_gates (length c.args.a.now.bits) + 1 ≤ comparison_gates (length c.args.a.now.bits) + sign_gates = omega arith in
    Adds-weaken (Adds-trans c.holds.ensures.adds c.signs_differ.ensures.adds) few

pub returns-in_err-operands-clause-adds : goal.returns-in_err-operands-clause-adds
returns-in_err-operands-clause-adds g c =
    let few : comparison_gates (length c.args.a.now.bits) + 1 + 1 ≤ comparison_gates (length c.args.a.now.bits) + sign_gates = omega arith in
    Adds-weaken (Adds-trans (Adds-trans c.holds.ensures.adds c.signs_differ.ensures.adds) c.or.ensures.adds) few

pub returns-in_err-poison-clause-adds : goal.returns-in_err-poison-clause-adds
returns-in_err-poison-clause-adds g c =
    let few : comparison_gates (length c.args.a.now.bits) + 1 + 1 + 1 ≤ comparison_gates (length c.args.a.now.bits) + sign_gates = omega arith in
    Adds-weaken (Adds-trans (Adds-trans (Adds-trans c.holds.ensures.adds c.signs_differ.ensures.adds) c.or.ensures.adds) c.or-2.ensures.adds) few

pub returns-in_err-repeated-clause-adds : goal.returns-in_err-repeated-clause-adds
returns-in_err-repeated-clause-adds g c =
    let few : comparison_gates (length c.args.a.now.bits) + 1 + 1 + 1 ≤ comparison_gates (length c.args.a.now.bits) + sign_gates = omega arith in
    Adds-weaken (Adds-trans (Adds-trans (Adds-trans c.holds.ensures.adds c.signs_differ.ensures.adds) c.or.ensures.adds) c.or-2.ensures.adds) few

pub returns-clause-adds : goal.returns-clause-adds
returns-clause-adds g c =
    let few : comparison_gates (length c.args.a.now.bits) + 1 + 1 + 1 ≤ comparison_gates (length c.args.a.now.bits) + sign_gates = omega arith in
    Adds-weaken (Adds-trans (Adds-trans (Adds-trans c.holds.ensures.adds c.signs_differ.ensures.adds) c.or.ensures.adds) c.or-2.ensures.adds) few
