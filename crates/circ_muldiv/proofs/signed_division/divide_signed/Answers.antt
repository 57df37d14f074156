use Rattle.circ_muldiv.proofs.Common.{◌<◌, ◌≤◌, ◌+◌, ◌-◌, ◌*◌, length, ◌∙◌, arith, own_at, All-kept, map-kept, Keeps-trans, Adds-trans, Adds-weaken, absolute_gates, division_gates, signed_division_gates}
use Rattle.circ_muldiv.proofs.SignedQuotients.{quotient_value, remainder_value}
use Rattle.circ_muldiv.proofs.signed_division.divide_signed.Goals as goal

pub xor-requires-clause-own_a : goal.xor-requires-clause-own_a
xor-requires-clause-own_a g c =
    let inside : length c.args.a.now - 1 < length c.args.a.now = omega arith in
    c.divide_absolute.ensures.adds.keeps.literals c.sign-sign_a.result
    (own_at (g.C.State.has_literal c.args.c.now) c.args.a.now (length c.args.a.now - 1) c.sign-sign_a.result c.requires.own_a inside c.sign-sign_a.ensures)

pub xor-requires-clause-own_b : goal.xor-requires-clause-own_b
xor-requires-clause-own_b g c =
    let inside : length c.args.b.now - 1 < length c.args.b.now = omega arith in
    c.divide_absolute.ensures.adds.keeps.literals c.sign-sign_b.result
    (own_at (g.C.State.has_literal c.args.c.now) c.args.b.now (length c.args.b.now - 1) c.sign-sign_b.result c.requires.own_b inside c.sign-sign_b.ensures)

pub negated_where-requires-clause-own_word : goal.negated_where-requires-clause-own_word
negated_where-requires-clause-own_word g c = All-kept c.xor.ensures.adds.keeps c.in_ok-divided.divided.quotient c.in_ok-divided.ensures.own_quotient

pub negated_where-requires-2-clause-own_negative : goal.negated_where-requires-2-clause-own_negative
negated_where-requires-2-clause-own_negative g c =
    let inside : length c.args.a.now - 1 < length c.args.a.now = omega arith in
    (Keeps-trans (Keeps-trans c.divide_absolute.ensures.adds.keeps c.xor.ensures.adds.keeps) c.negated_where.ensures.adds.keeps).literals c.sign-sign_a.result
    (own_at (g.C.State.has_literal c.args.c.now) c.args.a.now (length c.args.a.now - 1) c.sign-sign_a.result c.requires.own_a inside c.sign-sign_a.ensures)

pub negated_where-requires-2-clause-own_word : goal.negated_where-requires-2-clause-own_word
negated_where-requires-2-clause-own_word g c =
    All-kept (Keeps-trans c.xor.ensures.adds.keeps c.negated_where.ensures.adds.keeps) c.in_ok-divided.divided.remainder c.in_ok-divided.ensures.own_remainder

pub returns-clause-own_quotient : goal.returns-clause-own_quotient
returns-clause-own_quotient g c = All-kept c.negated_where-2.ensures.adds.keeps c.in_ok-quotient.quotient c.in_ok-quotient.ensures.own

pub returns-clause-quotient_width : goal.returns-clause-quotient_width
returns-clause-quotient_width g c = c.in_ok-quotient.ensures.width ∙ c.in_ok-divided.ensures.quotient_width

pub returns-clause-remainder_width : goal.returns-clause-remainder_width
returns-clause-remainder_width g c = c.in_ok-remainder.ensures.width ∙ c.in_ok-divided.ensures.remainder_width

pub returns-clause-quotient : goal.returns-clause-quotient
returns-clause-quotient g c inputs admitted some =
    let m = g.C.State in
    let a = c.args.a.now in
    let b = c.args.b.now in
    let k3 = c.divide_absolute.ensures.adds.keeps in
    let k4 = c.xor.ensures.adds.keeps in
    let k5 = c.negated_where.ensures.adds.keeps in
    let in_a : length c.args.a.now - 1 < length c.args.a.now = omega arith in
    let in_b : length c.args.b.now - 1 < length c.args.b.now = omega arith in
    let own_x = own_at (m.has_literal c.args.c.now) a (length a - 1) c.sign-sign_a.result c.requires.own_a in_a c.sign-sign_a.ensures in
    let own_y = own_at (m.has_literal c.args.c.now) b (length b - 1) c.sign-sign_b.result c.requires.own_b in_b c.sign-sign_b.ensures in
    let after_3 = k3.admitted inputs admitted in
    let after_4 = k4.admitted inputs after_3 in
    quotient_value (m.value c.args.c.now inputs) (m.value c.divide_absolute.new.c inputs) a b c.sign-sign_a.result c.requires.width c.sign-sign_a.ensures
    (m.value c.xor.new.self inputs) (m.value c.negated_where.new.c inputs) (m.value c.negated_where-2.new.c inputs) c.in_ok-divided.divided.quotient c.in_ok-quotient.quotient c.sign-sign_b.result c.in_ok-differ.differ
    c.requires.same_width c.sign-sign_b.ensures c.in_ok-divided.ensures.quotient_width
    (k3.values inputs c.sign-sign_a.result admitted own_x) (k3.values inputs c.sign-sign_b.result admitted own_y)
    (c.in_ok-differ.ensures.value inputs after_3)
    (map-kept k4 inputs after_3 c.in_ok-divided.divided.quotient c.in_ok-divided.ensures.own_quotient)
    (c.in_ok-divided.ensures.quotient inputs admitted some)
    (c.in_ok-quotient.ensures.number inputs after_4)
    (map-kept c.negated_where-2.ensures.adds.keeps inputs (k5.admitted inputs after_4) c.in_ok-quotient.quotient c.in_ok-quotient.ensures.own)

pub returns-clause-remainder : goal.returns-clause-remainder
returns-clause-remainder g c inputs admitted some =
    let m = g.C.State in
    let a = c.args.a.now in
    let k3 = c.divide_absolute.ensures.adds.keeps in
    let later = Keeps-trans c.xor.ensures.adds.keeps c.negated_where.ensures.adds.keeps in
    let in_a : length c.args.a.now - 1 < length c.args.a.now = omega arith in
    let own_x = own_at (m.has_literal c.args.c.now) a (length a - 1) c.sign-sign_a.result c.requires.own_a in_a c.sign-sign_a.ensures in
    let after_3 = k3.admitted inputs admitted in
    remainder_value (m.value c.args.c.now inputs) (m.value c.divide_absolute.new.c inputs) a c.args.b.now c.sign-sign_a.result c.requires.width c.sign-sign_a.ensures
    (m.value c.negated_where.new.c inputs) (m.value c.negated_where-2.new.c inputs) c.in_ok-divided.divided.remainder c.in_ok-remainder.remainder
    c.in_ok-divided.ensures.remainder_width
    ((Keeps-trans k3 later).values inputs c.sign-sign_a.result admitted own_x)
    (map-kept later inputs after_3 c.in_ok-divided.divided.remainder c.in_ok-divided.ensures.own_remainder)
    (c.in_ok-divided.ensures.remainder inputs admitted some)
    (c.in_ok-remainder.ensures.number inputs (later.admitted inputs after_3))

pub returns-in_err-divided-clause-adds : goal.returns-in_err-divided-clause-adds
returns-in_err-divided-clause-adds g c = Adds-weaken c.divide_absolute.ensures.adds (omega arith)

pub returns-in_err-differ-clause-adds : goal.returns-in_err-differ-clause-adds
returns-in_err-differ-clause-adds g c = Adds-weaken (Adds-trans c.divide_absolute.ensures.adds c.xor.ensures.adds) (omega arith)

pub returns-in_err-quotient-clause-adds : goal.returns-in_err-quotient-clause-adds
returns-in_err-quotient-clause-adds g c =
    let n = length c.args.a.now in
    let few : 2 * absolute_gates n + division_gates n + 1 + absolute_gates (length c.in_ok-divided.divided.quotient) ≤ signed_division_gates n = rw c.in_ok-divided.ensures.quotient_width (omega arith) in
    Adds-weaken (Adds-trans (Adds-trans c.divide_absolute.ensures.adds c.xor.ensures.adds) c.negated_where.ensures.adds) few

pub returns-in_err-remainder-clause-adds : goal.returns-in_err-remainder-clause-adds
returns-in_err-remainder-clause-adds g c =
    let n = length c.args.a.now in
    let few : 2 * absolute_gates n + division_gates n + 1 + absolute_gates (length c.in_ok-divided.divided.quotient) + absolute_gates (length c.in_ok-divided.divided.remainder) ≤ signed_division_gates n = rw (c.in_ok-divided.ensures.quotient_width, c.in_ok-divided.ensures.remainder_width) (omega arith) in
    Adds-weaken (Adds-trans (Adds-trans (Adds-trans c.divide_absolute.ensures.adds c.xor.ensures.adds) c.negated_where.ensures.adds) c.negated_where-2.ensures.adds) few

pub returns-clause-adds : goal.returns-clause-adds
returns-clause-adds g c =
    let n = length c.args.a.now in
    let few : 2 * absolute_gates n + division_gates n + 1 + absolute_gates (length c.in_ok-divided.divided.quotient) + absolute_gates (length c.in_ok-divided.divided.remainder) ≤ signed_division_gates n = rw (c.in_ok-divided.ensures.quotient_width, c.in_ok-divided.ensures.remainder_width) (omega arith) in
    Adds-weaken (Adds-trans (Adds-trans (Adds-trans c.divide_absolute.ensures.adds c.xor.ensures.adds) c.negated_where.ensures.adds) c.negated_where-2.ensures.adds) few
