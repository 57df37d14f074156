use Rattle.blast_value.proofs.Common.{length, ap, ◌∙◌, map-kept}
use Rattle.blast_value.proofs.Effects.{bitwise_value}
use Rattle.blast_value.proofs.bitwise.bit_by_bit.Goals as goal

pub returns-clause-value : goal.returns-clause-value
returns-clause-value g c inputs admitted =
    let k1 = c.each_bit.ensures.adds.keeps in
    let k2 = c.share_where.ensures.adds.keeps in
    let at_1 = k1.admitted inputs admitted in
    let width = c.in_ok-bits.ensures.width ∙ ap length c.as_slice.ensures ∙ c.requires.width_a in
    let number = rw (c.as_slice.ensures, c.as_slice-2.ensures) at (c.in_ok-bits.ensures.number inputs admitted) in
    let a_1 = map-kept k1 inputs admitted c.args.a.now c.requires.own_a in
    let b_1 = map-kept k1 inputs admitted c.args.b.now c.requires.own_b in
    let bits_2 = map-kept k2 inputs at_1 c.in_ok-bits.bits c.in_ok-bits.ensures.own in
    rw bits_2
    (bitwise_value c.args.op c.args.flags c.args.width _ _ _ _ _ _ width number c.promises_disjoint.ensures (rw (a_1, b_1) at (c.in_ok-poison.ensures.value inputs at_1)))
