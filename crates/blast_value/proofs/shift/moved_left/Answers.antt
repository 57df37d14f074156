use Rattle.blast_value.proofs.Common.{◌<◌, ◌≤◌, ◌+◌, ◌^◌, sym, subst, ◌∙◌, length, arith, number_of, comparison_gates, equality_gates, shift_gates, All-kept, map-kept, Keeps-trans, Adds-trans, Adds-weaken, number_below, left_gates}
use Rattle.blast_value.proofs.Moves.{left_value}
use Rattle.blast_value.proofs.shift.moved_left.Goals as goal

pub is_too_far-requires-clause-width : goal.is_too_far-requires-clause-width
is_too_far-requires-clause-width g c = c.requires.width_b

pub is_too_far-requires-clause-own : goal.is_too_far-requires-clause-own
is_too_far-requires-clause-own g c = c.requires.own_b

pub shift_left-requires-clause-own_a : goal.shift_left-requires-clause-own_a
shift_left-requires-clause-own_a g c = All-kept c.is_too_far.ensures.adds.keeps c.args.a.now c.requires.own_a

pub shift_left-requires-clause-own_amount : goal.shift_left-requires-clause-own_amount
shift_left-requires-clause-own_amount g c = All-kept c.is_too_far.ensures.adds.keeps c.args.b.now c.requires.own_b

pub loses-requires-clause-some : goal.loses-requires-clause-some
loses-requires-clause-some g c = rw c.requires.width_a (omega arith)

pub loses-requires-clause-width : goal.loses-requires-clause-width
loses-requires-clause-width g c = c.in_ok-bits.ensures.width

pub loses-requires-clause-width_amount : goal.loses-requires-clause-width_amount
loses-requires-clause-width_amount g c = c.requires.width_b ∙ sym c.requires.width_a

pub loses-requires-clause-own_before : goal.loses-requires-clause-own_before
loses-requires-clause-own_before g c = All-kept (Keeps-trans c.is_too_far.ensures.adds.keeps c.shift_left.ensures.adds.keeps) c.args.a.now c.requires.own_a

pub loses-requires-clause-own_shifted : goal.loses-requires-clause-own_shifted
loses-requires-clause-own_shifted g c = c.in_ok-bits.ensures.own

pub loses-requires-clause-own_amount : goal.loses-requires-clause-own_amount
loses-requires-clause-own_amount g c = All-kept (Keeps-trans c.is_too_far.ensures.adds.keeps c.shift_left.ensures.adds.keeps) c.args.b.now c.requires.own_b

pub loses-requires-2-clause-some : goal.loses-requires-2-clause-some
loses-requires-2-clause-some g c = rw c.requires.width_a (omega arith)

pub loses-requires-2-clause-width : goal.loses-requires-2-clause-width
loses-requires-2-clause-width g c = c.in_ok-bits.ensures.width

pub loses-requires-2-clause-width_amount : goal.loses-requires-2-clause-width_amount
loses-requires-2-clause-width_amount g c = c.requires.width_b ∙ sym c.requires.width_a

pub loses-requires-2-clause-own_before : goal.loses-requires-2-clause-own_before
loses-requires-2-clause-own_before g c = All-kept (Keeps-trans (Keeps-trans c.is_too_far.ensures.adds.keeps c.shift_left.ensures.adds.keeps) c.loses.ensures.adds.keeps) c.args.a.now c.requires.own_a

pub loses-requires-2-clause-own_shifted : goal.loses-requires-2-clause-own_shifted
loses-requires-2-clause-own_shifted g c = All-kept c.loses.ensures.adds.keeps c.in_ok-bits.bits c.in_ok-bits.ensures.own

pub loses-requires-2-clause-own_amount : goal.loses-requires-2-clause-own_amount
loses-requires-2-clause-own_amount g c = All-kept (Keeps-trans (Keeps-trans c.is_too_far.ensures.adds.keeps c.shift_left.ensures.adds.keeps) c.loses.ensures.adds.keeps) c.args.b.now c.requires.own_b

pub or-requires-clause-own_a : goal.or-requires-clause-own_a
or-requires-clause-own_a g c = c.loses-2.ensures.adds.keeps.literals c.in_ok-wraps.wraps c.in_ok-wraps.ensures.own

pub or-requires-clause-own_b : goal.or-requires-clause-own_b
or-requires-clause-own_b g c = c.in_ok-wraps_signed.ensures.own

pub or-requires-2-clause-own_a : goal.or-requires-2-clause-own_a
or-requires-2-clause-own_a g c =
    let to_or = Keeps-trans (Keeps-trans c.shift_left.ensures.adds.keeps c.loses.ensures.adds.keeps) (Keeps-trans c.loses-2.ensures.adds.keeps c.or.ensures.adds.keeps) in
    to_or.literals c.in_ok-is_far.is_far c.in_ok-is_far.ensures.own

pub or-requires-2-clause-own_b : goal.or-requires-2-clause-own_b
or-requires-2-clause-own_b g c = c.in_ok-breaks.ensures.own

pub returns-clause-width : goal.returns-clause-width
returns-clause-width g c = c.in_ok-bits.ensures.width ∙ c.requires.width_a

pub returns-clause-own : goal.returns-clause-own
returns-clause-own g c =
    let keeps = Keeps-trans (Keeps-trans c.loses.ensures.adds.keeps c.loses-2.ensures.adds.keeps) (Keeps-trans c.or.ensures.adds.keeps c.or-2.ensures.adds.keeps) in
    record { bits = All-kept keeps c.in_ok-bits.bits c.in_ok-bits.ensures.own; poison = c.in_ok-poison.ensures.own }

pub returns-clause-value : goal.returns-clause-value
returns-clause-value g c inputs admitted =
    let m = g.C.State in
    let k1 = c.is_too_far.ensures.adds.keeps in
    let k2 = c.shift_left.ensures.adds.keeps in
    let k3 = c.loses.ensures.adds.keeps in
    let k4 = c.loses-2.ensures.adds.keeps in
    let k5 = c.or.ensures.adds.keeps in
    let k6 = c.or-2.ensures.adds.keeps in
    let to_2 = Keeps-trans k1 k2 in
    let to_3 = Keeps-trans to_2 k3 in
    let at_1 = k1.admitted inputs admitted in
    let at_2 = k2.admitted inputs at_1 in
    let at_3 = k3.admitted inputs at_2 in
    let at_4 = k4.admitted inputs at_3 in
    let at_5 = k5.admitted inputs at_4 in
    let width = c.in_ok-bits.ensures.width ∙ c.requires.width_a in
    let a_1 = map-kept k1 inputs admitted c.args.a.now c.requires.own_a in
    let b_1 = map-kept k1 inputs admitted c.args.b.now c.requires.own_b in
    let a_2 = map-kept to_2 inputs admitted c.args.a.now c.requires.own_a in
    let b_2 = map-kept to_2 inputs admitted c.args.b.now c.requires.own_b in
    let a_3 = map-kept to_3 inputs admitted c.args.a.now c.requires.own_a in
    let b_3 = map-kept to_3 inputs admitted c.args.b.now c.requires.own_b in
    let bits = c.in_ok-bits.bits in
    let bits_3 = map-kept k3 inputs at_2 bits c.in_ok-bits.ensures.own in
    let bits_6 = map-kept (Keeps-trans (Keeps-trans (Keeps-trans k3 k4) k5) k6) inputs at_2 bits c.in_ok-bits.ensures.own in
    let below : number_of (m.value c.args.c.now inputs) c.args.a.now < 2 ^ c.args.width = subst (λ n. number_of (m.value c.args.c.now inputs) c.args.a.now < 2 ^ n) c.requires.width_a (number_below (m.value c.args.c.now inputs) c.args.a.now) in
    let number_2 = rw (a_1, b_1, c.requires.width_a) at (c.in_ok-bits.ensures.number inputs at_1) in
    let far_kept = (Keeps-trans (Keeps-trans (Keeps-trans k2 k3) k4) k5).values inputs c.in_ok-is_far.is_far at_1 c.in_ok-is_far.ensures.own in
    let wraps_kept = k4.values inputs c.in_ok-wraps.wraps at_3 c.in_ok-wraps.ensures.own in
    rw bits_6
    (left_value c.args.flags c.args.width (number_of (m.value c.args.c.now inputs) c.args.a.now) (number_of (m.value c.args.c.now inputs) c.args.b.now) _ _ _ _ _ _ below width number_2
    (far_kept ∙ c.in_ok-is_far.ensures.value inputs admitted)
    (wraps_kept ∙ rw (a_2, b_2, c.requires.width_a) at (c.in_ok-wraps.ensures.value inputs at_2))
    (rw (a_3, b_3, bits_3, c.requires.width_a) at (c.in_ok-wraps_signed.ensures.value inputs at_3))
    (rw (c.in_ok-breaks.ensures.value inputs at_4) at (c.in_ok-poison.ensures.value inputs at_5)))

pub returns-clause-adds : goal.returns-clause-adds
returns-clause-adds g c =
    let few : comparison_gates c.args.width + shift_gates (length c.args.a.now) (length c.args.b.now) + (shift_gates (length c.args.a.now) (length c.args.a.now) + equality_gates (length c.args.a.now)) + (shift_gates (length c.args.a.now) (length c.args.a.now) + equality_gates (length c.args.a.now)) + 1 + 1 ≤ left_gates c.args.width = rw (c.requires.width_a, c.requires.width_b) (omega arith) in
    Adds-weaken (Adds-trans (Adds-trans (Adds-trans (Adds-trans (Adds-trans c.is_too_far.ensures.adds c.shift_left.ensures.adds) c.loses.ensures.adds) c.loses-2.ensures.adds) c.or.ensures.adds) c.or-2.ensures.adds) few

pub returns-in_err-is_far-clause-adds : goal.returns-in_err-is_far-clause-adds
returns-in_err-is_far-clause-adds g c =
    let few : comparison_gates c.args.width ≤ left_gates c.args.width = omega arith in
    Adds-weaken c.is_too_far.ensures.adds few

pub returns-in_err-bits-clause-adds : goal.returns-in_err-bits-clause-adds
returns-in_err-bits-clause-adds g c =
    let few : comparison_gates c.args.width + shift_gates (length c.args.a.now) (length c.args.b.now) ≤ left_gates c.args.width = rw (c.requires.width_a, c.requires.width_b) (omega arith) in
    Adds-weaken (Adds-trans c.is_too_far.ensures.adds c.shift_left.ensures.adds) few

pub returns-in_err-wraps-clause-adds : goal.returns-in_err-wraps-clause-adds
returns-in_err-wraps-clause-adds g c =
    let few : comparison_gates c.args.width + shift_gates (length c.args.a.now) (length c.args.b.now) + (shift_gates (length c.args.a.now) (length c.args.a.now) + equality_gates (length c.args.a.now)) ≤ left_gates c.args.width = rw (c.requires.width_a, c.requires.width_b) (omega arith) in
    Adds-weaken (Adds-trans (Adds-trans c.is_too_far.ensures.adds c.shift_left.ensures.adds) c.loses.ensures.adds) few

pub returns-in_err-wraps_signed-clause-adds : goal.returns-in_err-wraps_signed-clause-adds
returns-in_err-wraps_signed-clause-adds g c =
    let few : comparison_gates c.args.width + shift_gates (length c.args.a.now) (length c.args.b.now) + (shift_gates (length c.args.a.now) (length c.args.a.now) + equality_gates (length c.args.a.now)) + (shift_gates (length c.args.a.now) (length c.args.a.now) + equality_gates (length c.args.a.now)) ≤ left_gates c.args.width = rw (c.requires.width_a, c.requires.width_b) (omega arith) in
    Adds-weaken (Adds-trans (Adds-trans (Adds-trans c.is_too_far.ensures.adds c.shift_left.ensures.adds) c.loses.ensures.adds) c.loses-2.ensures.adds) few

pub returns-in_err-breaks-clause-adds : goal.returns-in_err-breaks-clause-adds
returns-in_err-breaks-clause-adds g c =
    let few : comparison_gates c.args.width + shift_gates (length c.args.a.now) (length c.args.b.now) + (shift_gates (length c.args.a.now) (length c.args.a.now) + equality_gates (length c.args.a.now)) + (shift_gates (length c.args.a.now) (length c.args.a.now) + equality_gates (length c.args.a.now)) + 1 ≤ left_gates c.args.width = rw (c.requires.width_a, c.requires.width_b) (omega arith) in
    Adds-weaken (Adds-trans (Adds-trans (Adds-trans (Adds-trans c.is_too_far.ensures.adds c.shift_left.ensures.adds) c.loses.ensures.adds) c.loses-2.ensures.adds) c.or.ensures.adds) few

pub returns-in_err-poison-clause-adds : goal.returns-in_err-poison-clause-adds
returns-in_err-poison-clause-adds g c =
    let few : comparison_gates c.args.width + shift_gates (length c.args.a.now) (length c.args.b.now) + (shift_gates (length c.args.a.now) (length c.args.a.now) + equality_gates (length c.args.a.now)) + (shift_gates (length c.args.a.now) (length c.args.a.now) + equality_gates (length c.args.a.now)) + 1 + 1 ≤ left_gates c.args.width = rw (c.requires.width_a, c.requires.width_b) (omega arith) in
    Adds-weaken (Adds-trans (Adds-trans (Adds-trans (Adds-trans (Adds-trans c.is_too_far.ensures.adds c.shift_left.ensures.adds) c.loses.ensures.adds) c.loses-2.ensures.adds) c.or.ensures.adds) c.or-2.ensures.adds) few
