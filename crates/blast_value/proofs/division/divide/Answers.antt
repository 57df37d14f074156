use Rattle.blast_value.proofs.Common.{◌∙◌, number_of, map-kept, Keeps-trans}
use Rattle.blast_value.proofs.Effects.{divided_effect}
use Rattle.blast_value.proofs.division.divide.Goals as goal

pub returns-clause-effect : goal.returns-clause-effect
returns-clause-effect g c inputs admitted =
    let m = g.C.State in
    let value = m.value c.args.c.now inputs in
    let k1 = c.has_no_quotient.ensures.adds.keeps in
    let k2 = c.result.ensures.adds.keeps in
    let k3 = c.or.ensures.adds.keeps in
    let at_1 = k1.admitted inputs admitted in
    let at_2 = k2.admitted inputs at_1 in
    let undefined_kept = (Keeps-trans k2 k3).values inputs c.in_ok-undefined.undefined at_1 c.in_ok-undefined.ensures.own in
    let poison_kept = (Keeps-trans k1 k2).values inputs c.args.a.now.poison admitted c.requires.own_a.poison in
    let a_1 = map-kept k1 inputs admitted c.args.a.now.bits c.requires.own_a.bits in
    let b_1 = map-kept k1 inputs admitted c.args.b.now.bits c.requires.own_b.bits in
    let bits_3 = map-kept k3 inputs at_2 c.in_ok-made.made.bits c.in_ok-made.ensures.own.bits in
    rw bits_3
    (divided_effect c.args.op c.args.flags c.args.width _ _ (number_of value c.args.a.now.bits) (number_of value c.args.b.now.bits) _ _ (value c.args.a.now.poison) (value c.args.b.now.poison) (m.value c.result.new.c inputs c.in_ok-made.made.poison) c.is_signed.result _ c.requires.width_a c.requires.width_b c.is_signed.ensures
    (undefined_kept ∙ c.in_ok-undefined.ensures.value inputs admitted)
    (rw poison_kept at (c.in_ok-poison.ensures.value inputs at_2))
    (rw (a_1, b_1) at (c.in_ok-made.ensures.value inputs at_1)))
