use Rattle.circ_muldiv.proofs.Common.{◌≤◌, ◌+◌, ◌*◌, length, sym, ◌∙◌, arith, IfOk-weaker, All-kept, map-kept, Adds-trans, Adds-weaken, absolute_gates, division_gates}
use Rattle.circ_muldiv.proofs.SignedQuotients.{divisor_some, absolute_quotient, absolute_remainder}
use Rattle.circ_muldiv.proofs.signed_division.divide_absolute.Goals as goal

pub absolute-requires-2-clause-own : goal.absolute-requires-2-clause-own
absolute-requires-2-clause-own g c = All-kept c.absolute.ensures.adds.keeps c.args.b.now c.requires.own_b

pub divide_unsigned-requires-clause-same_width : goal.divide_unsigned-requires-clause-same_width
divide_unsigned-requires-clause-same_width g c = c.in_ok-absolute_b.ensures.width ∙ c.requires.same_width ∙ sym c.in_ok-absolute_a.ensures.width

pub divide_unsigned-requires-clause-own_a : goal.divide_unsigned-requires-clause-own_a
divide_unsigned-requires-clause-own_a g c = All-kept c.absolute-2.ensures.adds.keeps c.in_ok-absolute_a.absolute_a c.in_ok-absolute_a.ensures.own

pub returns-in_err-absolute_a-clause-adds : goal.returns-in_err-absolute_a-clause-adds
returns-in_err-absolute_a-clause-adds g c = Adds-weaken c.absolute.ensures.adds (omega arith)

pub returns-in_err-absolute_b-clause-adds : goal.returns-in_err-absolute_b-clause-adds
returns-in_err-absolute_b-clause-adds g c =
    let few : absolute_gates (length c.args.a.now) + absolute_gates (length c.args.b.now) ≤ 2 * absolute_gates (length c.args.a.now) + division_gates (length c.args.a.now) = rw c.requires.same_width (omega arith) in
    Adds-weaken (Adds-trans c.absolute.ensures.adds c.absolute-2.ensures.adds) few

pub returns-clause-quotient_width : goal.returns-clause-quotient_width
returns-clause-quotient_width g c =
    IfOk-weaker c.divide_unsigned.result _ _ (λ divided known. known ∙ c.in_ok-absolute_a.ensures.width) c.divide_unsigned.ensures.quotient_width

pub returns-clause-remainder_width : goal.returns-clause-remainder_width
returns-clause-remainder_width g c =
    IfOk-weaker c.divide_unsigned.result _ _ (λ divided known. known ∙ c.in_ok-absolute_a.ensures.width) c.divide_unsigned.ensures.remainder_width

pub returns-clause-quotient : goal.returns-clause-quotient
returns-clause-quotient g c =
    let m = g.C.State in
    let a = c.args.a.now in
    let b = c.args.b.now in
    let k1 = c.absolute.ensures.adds.keeps in
    let k2 = c.absolute-2.ensures.adds.keeps in
    IfOk-weaker c.divide_unsigned.result _ _ (λ divided known inputs admitted some.
    let v0 = m.value c.args.c.now inputs in
    let v1 = m.value c.absolute.new.c inputs in
    let v2 = m.value c.absolute-2.new.c inputs in
    let after_1 = k1.admitted inputs admitted in
    let b_kept = map-kept k1 inputs admitted b c.requires.own_b in
    let size_a_kept = map-kept k2 inputs after_1 c.in_ok-absolute_a.absolute_a c.in_ok-absolute_a.ensures.own in
    let size_a_is = c.in_ok-absolute_a.ensures.number inputs admitted in
    let size_b_is = c.in_ok-absolute_b.ensures.number inputs after_1 in
    let nonzero = divisor_some v0 v1 v2 a b c.in_ok-absolute_a.absolute_a c.in_ok-absolute_b.absolute_b c.requires.width c.requires.same_width b_kept size_a_kept size_a_is size_b_is some in
    absolute_quotient v0 v1 v2 a b c.in_ok-absolute_a.absolute_a c.in_ok-absolute_b.absolute_b c.requires.width c.requires.same_width b_kept size_a_kept size_a_is size_b_is _
    (known inputs (k2.admitted inputs after_1) nonzero))
    c.divide_unsigned.ensures.quotient

pub returns-clause-remainder : goal.returns-clause-remainder
returns-clause-remainder g c =
    let m = g.C.State in
    let a = c.args.a.now in
    let b = c.args.b.now in
    let k1 = c.absolute.ensures.adds.keeps in
    let k2 = c.absolute-2.ensures.adds.keeps in
    IfOk-weaker c.divide_unsigned.result _ _ (λ divided known inputs admitted some.
    let v0 = m.value c.args.c.now inputs in
    let v1 = m.value c.absolute.new.c inputs in
    let v2 = m.value c.absolute-2.new.c inputs in
    let after_1 = k1.admitted inputs admitted in
    let b_kept = map-kept k1 inputs admitted b c.requires.own_b in
    let size_a_kept = map-kept k2 inputs after_1 c.in_ok-absolute_a.absolute_a c.in_ok-absolute_a.ensures.own in
    let size_a_is = c.in_ok-absolute_a.ensures.number inputs admitted in
    let size_b_is = c.in_ok-absolute_b.ensures.number inputs after_1 in
    let nonzero = divisor_some v0 v1 v2 a b c.in_ok-absolute_a.absolute_a c.in_ok-absolute_b.absolute_b c.requires.width c.requires.same_width b_kept size_a_kept size_a_is size_b_is some in
    absolute_remainder v0 v1 v2 a b c.in_ok-absolute_a.absolute_a c.in_ok-absolute_b.absolute_b c.requires.width c.requires.same_width b_kept size_a_kept size_a_is size_b_is _
    (known inputs (k2.admitted inputs after_1) nonzero))
    c.divide_unsigned.ensures.remainder

pub returns-clause-adds : goal.returns-clause-adds
returns-clause-adds g c =
    let few : absolute_gates (length c.args.a.now) + absolute_gates (length c.args.b.now) + division_gates (length c.in_ok-absolute_a.absolute_a) ≤ 2 * absolute_gates (length c.args.a.now) + division_gates (length c.args.a.now) = rw (c.in_ok-absolute_a.ensures.width, c.requires.same_width) (omega arith) in
    Adds-weaken (Adds-trans (Adds-trans c.absolute.ensures.adds c.absolute-2.ensures.adds) c.divide_unsigned.ensures.adds) few
