use Rattle.circ_muldiv.proofs.Common.{true, ◌<◌, ◌≤◌, ◌-◌, ◌+◌, length, sym, ap, subst, ◌∙◌, arith, All, IfOk-weaker, comparison_gates, own_at, All-kept, map-kept, Keeps-trans, Adds-trans, Adds-weaken, absolute_gates, product_gates, overflow_mul_gates}
use Rattle.circ_muldiv.proofs.OverflowTests.{product_exceeds_limit}
use Rattle.circ_muldiv.proofs.overflow.overflow_mul_signed.Goals as goal

pub returns-clause-value : goal.returns-clause-value
returns-clause-value g c =
    let m = g.C.State in
    let a = c.args.a.now in
    let b = c.args.b.now in
    let k1 = c.absolute.ensures.adds.keeps in
    let k2 = c.absolute-2.ensures.adds.keeps in
    let k3 = c.multiply_with_overflow.ensures.adds.keeps in
    let k4 = c.xor.ensures.adds.keeps in
    let k5 = c.less_unsigned.ensures.adds.keeps in
    let to_2 = Keeps-trans k1 k2 in
    let to_3 = Keeps-trans to_2 k3 in
    let to_4 = Keeps-trans to_3 k4 in
    let to_5 = Keeps-trans to_4 k5 in
    let in_a : length c.args.a.now - 1 < length c.args.a.now = omega arith in
    let in_b : length c.args.b.now - 1 < length c.args.b.now = omega arith in
    let own_x = own_at (m.has_literal c.args.c.now) a (length a - 1) c.sign.result c.requires.own_a in_a c.sign.ensures in
    let own_y = own_at (m.has_literal c.args.c.now) b (length b - 1) c.sign-2.result c.requires.own_b in_b c.sign-2.ensures in
    IfOk-weaker c.or.result _ _ (λ result known inputs admitted.
    let after_1 = k1.admitted inputs admitted in
    let after_2 = to_2.admitted inputs admitted in
    let after_3 = to_3.admitted inputs admitted in
    let after_4 = to_4.admitted inputs admitted in
    known inputs (to_5.admitted inputs admitted) ∙ product_exceeds_limit (m.value c.args.c.now inputs) (m.value c.absolute.new.c inputs) (m.value c.absolute-2.new.c inputs) (m.value c.multiply_with_overflow.new.c inputs) (m.value c.xor.new.self inputs) (m.value c.less_unsigned.new.c inputs) a b c.in_ok-absolute_a.absolute_a c.in_ok-absolute_b.absolute_b c.in_ok-product.product.bits c.in_ok-greatest.greatest c.sign.result c.sign-2.result c.in_ok-differ.differ c.in_ok-product.product.overflow c.in_ok-exceeds.exceeds c.requires.width c.requires.same_width c.in_ok-absolute_a.ensures.width c.sign.ensures c.sign-2.ensures
    (to_3.values inputs c.sign.result admitted own_x) (to_3.values inputs c.sign-2.result admitted own_y)
    ((Keeps-trans k4 k5).values inputs c.in_ok-product.product.overflow after_3 c.in_ok-product.ensures.own_overflow)
    (map-kept k1 inputs admitted b c.requires.own_b)
    (map-kept k2 inputs after_1 c.in_ok-absolute_a.absolute_a c.in_ok-absolute_a.ensures.own)
    (map-kept k4 inputs after_3 c.in_ok-product.product.bits c.in_ok-product.ensures.own_bits)
    (c.in_ok-absolute_a.ensures.number inputs admitted) (c.in_ok-absolute_b.ensures.number inputs after_1)
    (rw (c.as_slice.ensures, c.as_slice-2.ensures) at (c.in_ok-product.ensures.number inputs after_2))
    (rw (c.as_slice.ensures, c.as_slice-2.ensures) at (c.in_ok-product.ensures.overflow inputs after_2))
    (c.in_ok-differ.ensures.value inputs after_3)
    (rw c.len.ensures at (c.in_ok-greatest.ensures.number inputs after_4))
    (c.in_ok-exceeds.ensures.value inputs after_4))
    c.or.ensures.value

pub returns-clause-adds : goal.returns-clause-adds
returns-clause-adds g c =
    let width_a = ap length c.as_slice.ensures ∙ c.in_ok-absolute_a.ensures.width in
    let width = c.in_ok-greatest.ensures.width ∙ c.len.ensures in
    let few : absolute_gates (length c.args.a.now) + absolute_gates (length c.args.b.now) + product_gates (length c.as_slice.result.now) + 1 + comparison_gates (length c.in_ok-greatest.greatest) + 1 ≤ overflow_mul_gates true (length c.args.a.now) = rw (width_a, width, c.requires.same_width) (omega arith) in
    Adds-weaken (Adds-trans (Adds-trans (Adds-trans (Adds-trans (Adds-trans c.absolute.ensures.adds c.absolute-2.ensures.adds) c.multiply_with_overflow.ensures.adds) c.xor.ensures.adds) c.less_unsigned.ensures.adds) c.or.ensures.adds) few

pub returns-in_err-absolute_a-clause-adds : goal.returns-in_err-absolute_a-clause-adds
returns-in_err-absolute_a-clause-adds g c =
    let few : absolute_gates (length c.args.a.now) ≤ overflow_mul_gates true (length c.args.a.now) = omega arith in
    Adds-weaken c.absolute.ensures.adds few

pub returns-in_err-absolute_b-clause-adds : goal.returns-in_err-absolute_b-clause-adds
returns-in_err-absolute_b-clause-adds g c =
    let few : absolute_gates (length c.args.a.now) + absolute_gates (length c.args.b.now) ≤ overflow_mul_gates true (length c.args.a.now) = rw (c.requires.same_width) (omega arith) in
    Adds-weaken (Adds-trans c.absolute.ensures.adds c.absolute-2.ensures.adds) few

pub returns-in_err-product-clause-adds : goal.returns-in_err-product-clause-adds
returns-in_err-product-clause-adds g c =
    let width_a = ap length c.as_slice.ensures ∙ c.in_ok-absolute_a.ensures.width in
    let few : absolute_gates (length c.args.a.now) + absolute_gates (length c.args.b.now) + product_gates (length c.as_slice.result.now) ≤ overflow_mul_gates true (length c.args.a.now) = rw (width_a, c.requires.same_width) (omega arith) in
    Adds-weaken (Adds-trans (Adds-trans c.absolute.ensures.adds c.absolute-2.ensures.adds) c.multiply_with_overflow.ensures.adds) few

pub returns-in_err-differ-clause-adds : goal.returns-in_err-differ-clause-adds
returns-in_err-differ-clause-adds g c =
    let width_a = ap length c.as_slice.ensures ∙ c.in_ok-absolute_a.ensures.width in
    let few : absolute_gates (length c.args.a.now) + absolute_gates (length c.args.b.now) + product_gates (length c.as_slice.result.now) + 1 ≤ overflow_mul_gates true (length c.args.a.now) = rw (width_a, c.requires.same_width) (omega arith) in
    Adds-weaken (Adds-trans (Adds-trans (Adds-trans c.absolute.ensures.adds c.absolute-2.ensures.adds) c.multiply_with_overflow.ensures.adds) c.xor.ensures.adds) few

pub returns-in_err-greatest-clause-adds : goal.returns-in_err-greatest-clause-adds
returns-in_err-greatest-clause-adds g c =
    let width_a = ap length c.as_slice.ensures ∙ c.in_ok-absolute_a.ensures.width in
    let few : absolute_gates (length c.args.a.now) + absolute_gates (length c.args.b.now) + product_gates (length c.as_slice.result.now) + 1 ≤ overflow_mul_gates true (length c.args.a.now) = rw (width_a, c.requires.same_width) (omega arith) in
    Adds-weaken (Adds-trans (Adds-trans (Adds-trans c.absolute.ensures.adds c.absolute-2.ensures.adds) c.multiply_with_overflow.ensures.adds) c.xor.ensures.adds) few

pub returns-in_err-exceeds-clause-adds : goal.returns-in_err-exceeds-clause-adds
returns-in_err-exceeds-clause-adds g c =
    let width_a = ap length c.as_slice.ensures ∙ c.in_ok-absolute_a.ensures.width in
    let width = c.in_ok-greatest.ensures.width ∙ c.len.ensures in
    let few : absolute_gates (length c.args.a.now) + absolute_gates (length c.args.b.now) + product_gates (length c.as_slice.result.now) + 1 + comparison_gates (length c.in_ok-greatest.greatest) ≤ overflow_mul_gates true (length c.args.a.now) = rw (width_a, width, c.requires.same_width) (omega arith) in
    Adds-weaken (Adds-trans (Adds-trans (Adds-trans (Adds-trans c.absolute.ensures.adds c.absolute-2.ensures.adds) c.multiply_with_overflow.ensures.adds) c.xor.ensures.adds) c.less_unsigned.ensures.adds) few

pub absolute-requires-2-clause-own : goal.absolute-requires-2-clause-own
absolute-requires-2-clause-own g c = All-kept c.absolute.ensures.adds.keeps c.args.b.now c.requires.own_b

pub multiply_with_overflow-requires-clause-same_width : goal.multiply_with_overflow-requires-clause-same_width
multiply_with_overflow-requires-clause-same_width g c =
    ap length c.as_slice-2.ensures ∙ c.in_ok-absolute_b.ensures.width ∙ c.requires.same_width ∙ sym (ap length c.as_slice.ensures ∙ c.in_ok-absolute_a.ensures.width)

pub multiply_with_overflow-requires-clause-own_a : goal.multiply_with_overflow-requires-clause-own_a
multiply_with_overflow-requires-clause-own_a g c =
    subst (All (g.C.State.has_literal c.absolute-2.new.c)) (sym c.as_slice.ensures) (All-kept c.absolute-2.ensures.adds.keeps c.in_ok-absolute_a.absolute_a c.in_ok-absolute_a.ensures.own)

pub multiply_with_overflow-requires-clause-own_b : goal.multiply_with_overflow-requires-clause-own_b
multiply_with_overflow-requires-clause-own_b g c = subst (All (g.C.State.has_literal c.absolute-2.new.c)) (sym c.as_slice-2.ensures) c.in_ok-absolute_b.ensures.own

pub xor-requires-clause-own_a : goal.xor-requires-clause-own_a
xor-requires-clause-own_a g c =
    let inside : length c.args.a.now - 1 < length c.args.a.now = omega arith in
    (Keeps-trans (Keeps-trans c.absolute.ensures.adds.keeps c.absolute-2.ensures.adds.keeps) c.multiply_with_overflow.ensures.adds.keeps).literals c.sign.result
    (own_at (g.C.State.has_literal c.args.c.now) c.args.a.now (length c.args.a.now - 1) c.sign.result c.requires.own_a inside c.sign.ensures)

pub xor-requires-clause-own_b : goal.xor-requires-clause-own_b
xor-requires-clause-own_b g c =
    let inside : length c.args.b.now - 1 < length c.args.b.now = omega arith in
    (Keeps-trans (Keeps-trans c.absolute.ensures.adds.keeps c.absolute-2.ensures.adds.keeps) c.multiply_with_overflow.ensures.adds.keeps).literals c.sign-2.result
    (own_at (g.C.State.has_literal c.args.c.now) c.args.b.now (length c.args.b.now - 1) c.sign-2.result c.requires.own_b inside c.sign-2.ensures)

pub less_unsigned-requires-clause-same_width : goal.less_unsigned-requires-clause-same_width
less_unsigned-requires-clause-same_width g c =
    c.in_ok-product.ensures.width ∙ ap length c.as_slice.ensures ∙ c.in_ok-absolute_a.ensures.width ∙ sym (c.in_ok-greatest.ensures.width ∙ c.len.ensures)

pub less_unsigned-requires-clause-own_b : goal.less_unsigned-requires-clause-own_b
less_unsigned-requires-clause-own_b g c = All-kept c.xor.ensures.adds.keeps c.in_ok-product.product.bits c.in_ok-product.ensures.own_bits

pub or-requires-clause-own_a : goal.or-requires-clause-own_a
or-requires-clause-own_a g c =
    (Keeps-trans c.xor.ensures.adds.keeps c.less_unsigned.ensures.adds.keeps).literals c.in_ok-product.product.overflow c.in_ok-product.ensures.own_overflow
