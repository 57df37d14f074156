use Rattle.blast_value.proofs.Common.{◌≤◌, ◌+◌, length, arith, ◌*◌, IfOk-weaker, map-kept, Keeps-trans, Adds-trans, Adds-weaken, equality_gates}
use Rattle.blast_value.proofs.division.may_be_too_large.Goals as goal

pub returns-clause-value : goal.returns-clause-value
returns-clause-value g c =
    let k1 = c.equals.ensures.adds.keeps in
    let k2 = c.equals-2.ensures.adds.keeps in
    let k3 = c.or.ensures.adds.keeps in
    IfOk-weaker c.and.result _ _ (λ made known inputs admitted.
    let at_1 = k1.admitted inputs admitted in
    let at_2 = k2.admitted inputs at_1 in
    let minus_one_kept = (Keeps-trans k2 k3).values inputs c.in_ok-by_minus_one.by_minus_one at_1 c.in_ok-by_minus_one.ensures.own in
    let poison_kept = (Keeps-trans k1 k2).values inputs c.args.a.now.poison admitted c.requires.own_a.poison in
    let a_kept = map-kept k1 inputs admitted c.args.a.now.bits c.requires.own_a.bits in
    rw (minus_one_kept, c.in_ok-by_minus_one.ensures.value inputs admitted, c.in_ok-dividend.ensures.value inputs at_2, poison_kept, c.in_ok-of_least.ensures.value inputs at_1, a_kept, c.minus_one.ensures.value, c.least.ensures.value) at (known inputs (k3.admitted inputs at_2)))
    c.and.ensures.value

pub returns-in_err-by_minus_one-clause-adds : goal.returns-in_err-by_minus_one-clause-adds
returns-in_err-by_minus_one-clause-adds g c =
    let few : equality_gates (length c.args.b.now.bits) ≤ 2 * equality_gates c.args.width + 2 = rw c.requires.width_b (omega arith) in
    Adds-weaken c.equals.ensures.adds few

pub returns-in_err-of_least-clause-adds : goal.returns-in_err-of_least-clause-adds
returns-in_err-of_least-clause-adds g c =
    let few : equality_gates (length c.args.b.now.bits) + equality_gates (length c.args.a.now.bits) ≤ 2 * equality_gates c.args.width + 2 = rw (c.requires.width_a, c.requires.width_b) (omega arith) in
    Adds-weaken (Adds-trans c.equals.ensures.adds c.equals-2.ensures.adds) few

pub returns-in_err-dividend-clause-adds : goal.returns-in_err-dividend-clause-adds
returns-in_err-dividend-clause-adds g c =
    let few : equality_gates (length c.args.b.now.bits) + equality_gates (length c.args.a.now.bits) + 1 ≤ 2 * equality_gates c.args.width + 2 = rw (c.requires.width_a, c.requires.width_b) (omega arith) in
    Adds-weaken (Adds-trans (Adds-trans c.equals.ensures.adds c.equals-2.ensures.adds) c.or.ensures.adds) few

pub returns-clause-adds : goal.returns-clause-adds
returns-clause-adds g c =
    let few : equality_gates (length c.args.b.now.bits) + equality_gates (length c.args.a.now.bits) + 1 + 1 ≤ 2 * equality_gates c.args.width + 2 = rw (c.requires.width_a, c.requires.width_b) (omega arith) in
    Adds-weaken (Adds-trans (Adds-trans (Adds-trans c.equals.ensures.adds c.equals-2.ensures.adds) c.or.ensures.adds) c.and.ensures.adds) few
