use Rattle.blast_value.proofs.Common.{◌<◌, ◌^◌, subst, ◌∙◌, number_of, map-kept, number_below}
use Rattle.blast_value.proofs.Effects.{quotient_value}
use Rattle.blast_value.proofs.division.result.Goals as goal

pub returns-in_ok-poison-in-UDiv-clause-value : goal.returns-in_ok-poison-in-UDiv-clause-value
returns-in_ok-poison-in-UDiv-clause-value g c inputs admitted some =
    let value = g.C.State.value c.args.c.now inputs in
    let k1 = c.quotient_and_remainder.ensures.adds.keeps in
    let k2 = c.is_left.ensures.adds.keeps in
    let at_1 = k1.admitted inputs admitted in
    let below : number_of value c.args.a.now < 2 ^ c.args.width = subst (λ n. number_of value c.args.a.now < 2 ^ n) c.requires.width_a (number_below value c.args.a.now) in
    let kept = map-kept k2 inputs at_1 c.in_ok-divided.divided.quotient c.in_ok-divided.ensures.own_quotient in
    rw kept
    (quotient_value c.args.op c.args.flags c.args.width (number_of value c.args.a.now) (number_of value c.args.b.now) _ _ _ _ _ c.in-UDiv.is below (c.in_ok-divided.ensures.quotient_width ∙ c.requires.width_a) c.is_signed.ensures
    (rw c.requires.width_a at (c.in_ok-divided.ensures.quotient inputs admitted some)) (rw c.requires.width_a at (c.in_ok-divided.ensures.remainder inputs admitted some)) (c.in_ok-poison-in-UDiv.ensures.value inputs at_1))
