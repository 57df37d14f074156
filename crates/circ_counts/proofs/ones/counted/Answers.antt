use Rattle.circ_counts.proofs.Common.{◌≡◌, ◌<◌, ◌≤◌, ◌+◌, ◌*◌, ◌^◌, length, take, sym, ap, subst, ◌∙◌, arith, All, mul-le-mul_left, filter, length-take-le, take_all, adder_gates, number_of, bit, Adds-trans, Adds-weaken, All-kept, map-kept, own_at}
use Rattle.circ_counts.proofs.Counted.{count_take_more, count-le, no_carry}
use Rattle.circ_counts.proofs.ones.counted.Goals as goal

pub loop-bit-preserved : goal.loop-bit-preserved
loop-bit-preserved g c =
    let m = g.C.State in
    let before = c.loop-bit.invariant in
    let i = c.loop-bit.bit-index in
    let inside : i < length c.args.a.now = omega arith in
    let slice_width : length c.as_slice.result.now ≡ length c.args.zeros.now = ap length c.as_slice.ensures ∙ before.2 in
    let own_bit = own_at (m.has_literal c.args.c.now) c.args.a.now i c.bit-item.result c.requires.own_a inside c.bit-item.is in
    let few : adder_gates (length c.args.zeros.now) * i + adder_gates (length c.as_slice.result.now) ≤ adder_gates (length c.args.zeros.now) * (i + 1) = rw slice_width (omega arith) in (
      Adds-weaken (Adds-trans before.0 c.add_with_carry.ensures.adds) few,
      c.in_ok-sum.ensures.own_bits,
      c.in_ok-sum.ensures.width ∙ slice_width,
      λ inputs admitted.
          let now_admitted = before.0.keeps.admitted inputs admitted in
          let bit_kept = before.0.keeps.values inputs c.bit-item.result admitted own_bit in
          let zeros_kept = map-kept before.0.keeps inputs admitted c.args.zeros.now c.requires.own_zeros in
          let none = c.requires.zeros inputs admitted in
          let value = m.value c.args.c.now inputs in
          let now = m.value c.add_with_carry.new.c inputs in
          let total : number_of now c.in_ok-sum.sum.bits + 2 ^ length c.args.zeros.now * bit (now c.in_ok-sum.sum.carry) ≡ length (filter value (take i c.args.a.now)) + 0 + bit (value c.bit-item.result) =
          rw (c.as_slice.ensures, before.2, before.3 inputs admitted, bit_kept, zeros_kept, none) at (c.in_ok-sum.ensures.number inputs now_admitted) in
          let more : length (filter value (take (i + 1) c.args.a.now)) ≡ length (filter value (take i c.args.a.now)) + bit (value c.bit-item.result) =
          count_take_more value c.args.a.now i c.bit-item.result inside c.bit-item.is in
          let gained : length (filter value (take i c.args.a.now)) + 0 + bit (value c.bit-item.result) ≡ length (filter value (take (i + 1) c.args.a.now)) = omega (arith, more) in
          let few_ones : length (filter value (take (i + 1) c.args.a.now)) < 2 ^ length c.args.zeros.now = omega (arith, count-le value (take (i + 1) c.args.a.now), length-take-le (i + 1) c.args.a.now (omega arith), c.requires.room) in
          no_carry (number_of now c.in_ok-sum.sum.bits) (2 ^ length c.args.zeros.now) (length (filter value (take (i + 1) c.args.a.now))) (now c.in_ok-sum.sum.carry) (total ∙ gained) few_ones,
    )

pub add_with_carry-requires-clause-same_width : goal.add_with_carry-requires-clause-same_width
add_with_carry-requires-clause-same_width g c = sym (ap length c.as_slice.ensures ∙ c.loop-bit.invariant.2)

pub add_with_carry-requires-clause-own_a : goal.add_with_carry-requires-clause-own_a
add_with_carry-requires-clause-own_a g c = subst (All (g.C.State.has_literal c.loop-bit.c)) (sym c.as_slice.ensures) c.loop-bit.invariant.1

pub add_with_carry-requires-clause-own_b : goal.add_with_carry-requires-clause-own_b
add_with_carry-requires-clause-own_b g c = All-kept c.loop-bit.invariant.0.keeps c.args.zeros.now c.requires.own_zeros

pub add_with_carry-requires-clause-own_first : goal.add_with_carry-requires-clause-own_first
add_with_carry-requires-clause-own_first g c =
    let inside : c.loop-bit.bit-index < length c.args.a.now = omega arith in
    c.loop-bit.invariant.0.keeps.literals c.bit-item.result (own_at (g.C.State.has_literal c.args.c.now) c.args.a.now c.loop-bit.bit-index c.bit-item.result c.requires.own_a inside c.bit-item.is)

pub returns-in_err-sum-clause-adds : goal.returns-in_err-sum-clause-adds
returns-in_err-sum-clause-adds g c =
    let width : length c.as_slice.result.now ≡ length c.args.zeros.now = ap length c.as_slice.ensures ∙ c.loop-bit.invariant.2 in
    let inside : c.loop-bit.bit-index + 1 ≤ length c.args.a.now = omega arith in
    Adds-weaken (Adds-trans c.loop-bit.invariant.0 c.add_with_carry.ensures.adds) (omega (arith, mul-le-mul_left (adder_gates (length c.args.zeros.now)) inside))

pub returns-clause-number : goal.returns-clause-number
returns-clause-number g c inputs admitted =
    let value = g.C.State.value c.args.c.now inputs in
    c.loop-bit.invariant.3 inputs admitted ∙ ap (λ bits. length (filter value bits)) (take_all c.loop-bit.bit-index c.args.a.now (omega arith))

pub returns-clause-adds : goal.returns-clause-adds
returns-clause-adds g c =
    let inside : c.loop-bit.bit-index ≤ length c.args.a.now = omega arith in
    Adds-weaken c.loop-bit.invariant.0 (mul-le-mul_left (adder_gates (length c.args.zeros.now)) inside)
