use Rattle.blast_value.proofs.Common.{◌<◌, ◌^◌, subst, ◌∙◌, ◌≤◌, ◌+◌, length, arith, number_of, map-kept, Keeps-trans, Adds-trans, Adds-weaken, number_below, comparison_gates, equality_gates, shift_gates, right_gates}
use Rattle.blast_value.proofs.Moves.{right_value}
use Rattle.blast_value.proofs.shift.moved_right.Goals as goal

pub returns-clause-value : goal.returns-clause-value
returns-clause-value g c inputs admitted =
    let m = g.C.State in
    let k1 = c.is_too_far.ensures.adds.keeps in
    let k2 = c.shift_right.ensures.adds.keeps in
    let k3 = c.cuts.ensures.adds.keeps in
    let k4 = c.or.ensures.adds.keeps in
    let to_2 = Keeps-trans k1 k2 in
    let at_1 = k1.admitted inputs admitted in
    let at_2 = k2.admitted inputs at_1 in
    let at_3 = k3.admitted inputs at_2 in
    let width = c.in_ok-bits.ensures.width ∙ c.requires.width_a in
    let a_1 = map-kept k1 inputs admitted c.args.a.now c.requires.own_a in
    let b_1 = map-kept k1 inputs admitted c.args.b.now c.requires.own_b in
    let a_2 = map-kept to_2 inputs admitted c.args.a.now c.requires.own_a in
    let b_2 = map-kept to_2 inputs admitted c.args.b.now c.requires.own_b in
    let bits = c.in_ok-bits.bits in
    let bits_4 = map-kept (Keeps-trans k3 k4) inputs at_2 bits c.in_ok-bits.ensures.own in
    let below : number_of (m.value c.args.c.now inputs) c.args.a.now < 2 ^ c.args.width = subst (λ n. number_of (m.value c.args.c.now inputs) c.args.a.now < 2 ^ n) c.requires.width_a (number_below (m.value c.args.c.now inputs) c.args.a.now) in
    let top = rw (a_1, c.requires.width_a) at (c.sign_where-top.ensures.value inputs at_1) in
    let number_2 = rw (a_1, b_1, c.requires.width_a) at (c.in_ok-bits.ensures.number inputs at_1) in
    let far_kept = (Keeps-trans k2 k3).values inputs c.in_ok-is_far.is_far at_1 c.in_ok-is_far.ensures.own in
    rw bits_4
    (right_value c.args.exact c.args.signed c.args.width (number_of (m.value c.args.c.now inputs) c.args.a.now) (number_of (m.value c.args.c.now inputs) c.args.b.now) _ _ _ _ _ (m.value c.is_too_far.new.c inputs c.sign_where-top.result) below width top number_2
    (far_kept ∙ c.in_ok-is_far.ensures.value inputs admitted)
    (rw (a_2, b_2, c.requires.width_a) at (c.in_ok-lost.ensures.value inputs at_2))
    (c.in_ok-poison.ensures.value inputs at_3))

pub returns-in_err-is_far-clause-adds : goal.returns-in_err-is_far-clause-adds
returns-in_err-is_far-clause-adds g c =
    let few : comparison_gates c.args.width ≤ right_gates c.args.width = omega arith in
    Adds-weaken c.is_too_far.ensures.adds few

pub returns-in_err-bits-clause-adds : goal.returns-in_err-bits-clause-adds
returns-in_err-bits-clause-adds g c =
    let few : comparison_gates c.args.width + shift_gates (length c.args.a.now) (length c.args.b.now) ≤ right_gates c.args.width = rw (c.requires.width_a, c.requires.width_b) (omega arith) in
    Adds-weaken (Adds-trans c.is_too_far.ensures.adds c.shift_right.ensures.adds) few

pub returns-in_err-lost-clause-adds : goal.returns-in_err-lost-clause-adds
returns-in_err-lost-clause-adds g c =
    let few : comparison_gates c.args.width + shift_gates (length c.args.a.now) (length c.args.b.now) + (shift_gates (length c.args.a.now) (length c.args.a.now) + equality_gates (length c.args.a.now)) ≤ right_gates c.args.width = rw (c.requires.width_a, c.requires.width_b) (omega arith) in
    Adds-weaken (Adds-trans (Adds-trans c.is_too_far.ensures.adds c.shift_right.ensures.adds) c.cuts.ensures.adds) few

pub returns-in_err-poison-clause-adds : goal.returns-in_err-poison-clause-adds
returns-in_err-poison-clause-adds g c =
    let few : comparison_gates c.args.width + shift_gates (length c.args.a.now) (length c.args.b.now) + (shift_gates (length c.args.a.now) (length c.args.a.now) + equality_gates (length c.args.a.now)) + 1 ≤ right_gates c.args.width = rw (c.requires.width_a, c.requires.width_b) (omega arith) in
    Adds-weaken (Adds-trans (Adds-trans (Adds-trans c.is_too_far.ensures.adds c.shift_right.ensures.adds) c.cuts.ensures.adds) c.or.ensures.adds) few

pub returns-clause-adds : goal.returns-clause-adds
returns-clause-adds g c =
    let few : comparison_gates c.args.width + shift_gates (length c.args.a.now) (length c.args.b.now) + (shift_gates (length c.args.a.now) (length c.args.a.now) + equality_gates (length c.args.a.now)) + 1 ≤ right_gates c.args.width = rw (c.requires.width_a, c.requires.width_b) (omega arith) in
    Adds-weaken (Adds-trans (Adds-trans (Adds-trans c.is_too_far.ensures.adds c.shift_right.ensures.adds) c.cuts.ensures.adds) c.or.ensures.adds) few
