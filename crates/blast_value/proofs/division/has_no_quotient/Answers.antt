use Rattle.blast_value.proofs.Common.{IfOk-weaker, map-kept, Keeps-trans}
use Rattle.blast_value.proofs.division.has_no_quotient.Goals as goal

pub returns-clause-value : goal.returns-clause-value
returns-clause-value g c =
    let k1 = c.equals.ensures.adds.keeps in
    let k2 = c.or.ensures.adds.keeps in
    let k3 = c.may_be_too_large.ensures.adds.keeps in
    let to_2 = Keeps-trans k1 k2 in
    IfOk-weaker c.or-2.result _ _ (λ made known inputs admitted.
    let at_1 = k1.admitted inputs admitted in
    let at_2 = k2.admitted inputs at_1 in
    let nothing_kept = k3.values inputs c.in_ok-by_nothing.by_nothing at_2 c.in_ok-by_nothing.ensures.own in
    let poison_b = k1.values inputs c.args.b.now.poison admitted c.requires.own_b.poison in
    let poison_a = to_2.values inputs c.args.a.now.poison admitted c.requires.own_a.poison in
    let a_2 = map-kept to_2 inputs admitted c.args.a.now.bits c.requires.own_a.bits in
    let b_2 = map-kept to_2 inputs admitted c.args.b.now.bits c.requires.own_b.bits in
    rw c.if-not-signed.false (rw (nothing_kept, c.in_ok-by_nothing.ensures.value inputs at_1, poison_b, c.in_ok-zero.ensures.value inputs admitted, c.in_ok-too_large.ensures.value inputs at_2, poison_a, a_2, b_2) at (known inputs (k3.admitted inputs at_2))))
    c.or-2.ensures.value
