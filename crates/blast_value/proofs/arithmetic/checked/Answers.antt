use Rattle.blast_value.proofs.Common.{ap, ◌∙◌, ◌≤◌, ◌+◌, length, arith, true, false, number, map-kept, Keeps-trans, Adds-trans, Adds-weaken, checked_gates, overflow_gates, result_gates}
use Rattle.blast_value.proofs.Effects.{checked_value, exact_signed}
use Rattle.blast_value.proofs.arithmetic.checked.Goals as goal

pub returns-clause-value : goal.returns-clause-value
returns-clause-value g c inputs admitted =
    let m = g.C.State in
    let k1 = c.wrapped.ensures.adds.keeps in
    let k2 = c.overflows.ensures.adds.keeps in
    let k3 = c.overflows-2.ensures.adds.keeps in
    let k4 = c.or.ensures.adds.keeps in
    let to_2 = Keeps-trans k1 k2 in
    let at_1 = k1.admitted inputs admitted in
    let at_2 = to_2.admitted inputs admitted in
    let at_3 = k3.admitted inputs at_2 in
    let a_1 = ap number (map-kept k1 inputs admitted c.args.a.now c.requires.own_a) in
    let b_1 = ap number (map-kept k1 inputs admitted c.args.b.now c.requires.own_b) in
    let a_2 = ap number (map-kept to_2 inputs admitted c.args.a.now c.requires.own_a) in
    let b_2 = ap number (map-kept to_2 inputs admitted c.args.b.now c.requires.own_b) in
    let bits_kept = ap number (map-kept (Keeps-trans (Keeps-trans k2 k3) k4) inputs at_1 c.in_ok-bits.bits c.in_ok-bits.ensures.own) in
    let wraps_kept = k3.values inputs c.in_ok-wraps.wraps at_2 c.in_ok-wraps.ensures.own in
    checked_value c.args.flags c.args.width _ _ _ _ _ _ _ (c.in_ok-bits.ensures.width ∙ c.requires.width_a) (bits_kept ∙ rw c.requires.width_a at (c.in_ok-bits.ensures.number inputs admitted))
    (wraps_kept ∙ rw (a_1, b_1, c.requires.width_a) at (c.in_ok-wraps.ensures.value inputs at_1))
    (rw (a_2, b_2, c.requires.width_a, exact_signed c.args.op c.args.width (number _) (number _)) at (c.in_ok-wraps_signed.ensures.value inputs at_2))
    (c.in_ok-poison.ensures.value inputs at_3)

pub returns-in_err-bits-clause-adds : goal.returns-in_err-bits-clause-adds
returns-in_err-bits-clause-adds g c =
    let few : result_gates c.args.op (length c.args.a.now) ≤ checked_gates c.args.op c.args.width = rw c.requires.width_a (omega arith) in
    Adds-weaken c.wrapped.ensures.adds few

pub returns-in_err-wraps-clause-adds : goal.returns-in_err-wraps-clause-adds
returns-in_err-wraps-clause-adds g c =
    let few : result_gates c.args.op (length c.args.a.now) + overflow_gates false c.args.op (length c.args.a.now) ≤ checked_gates c.args.op c.args.width = rw c.requires.width_a (omega arith) in
    Adds-weaken (Adds-trans c.wrapped.ensures.adds c.overflows.ensures.adds) few

pub returns-in_err-wraps_signed-clause-adds : goal.returns-in_err-wraps_signed-clause-adds
returns-in_err-wraps_signed-clause-adds g c =
    let few : result_gates c.args.op (length c.args.a.now) + overflow_gates false c.args.op (length c.args.a.now) + overflow_gates true c.args.op (length c.args.a.now) ≤ checked_gates c.args.op c.args.width = rw c.requires.width_a (omega arith) in
    Adds-weaken (Adds-trans (Adds-trans c.wrapped.ensures.adds c.overflows.ensures.adds) c.overflows-2.ensures.adds) few

pub returns-in_err-poison-clause-adds : goal.returns-in_err-poison-clause-adds
returns-in_err-poison-clause-adds g c =
    let few : result_gates c.args.op (length c.args.a.now) + overflow_gates false c.args.op (length c.args.a.now) + overflow_gates true c.args.op (length c.args.a.now) + 1 ≤ checked_gates c.args.op c.args.width = rw c.requires.width_a (omega arith) in
    Adds-weaken (Adds-trans (Adds-trans (Adds-trans c.wrapped.ensures.adds c.overflows.ensures.adds) c.overflows-2.ensures.adds) c.or.ensures.adds) few

pub returns-clause-adds : goal.returns-clause-adds
returns-clause-adds g c =
    let few : result_gates c.args.op (length c.args.a.now) + overflow_gates false c.args.op (length c.args.a.now) + overflow_gates true c.args.op (length c.args.a.now) + 1 ≤ checked_gates c.args.op c.args.width = rw c.requires.width_a (omega arith) in
    Adds-weaken (Adds-trans (Adds-trans (Adds-trans c.wrapped.ensures.adds c.overflows.ensures.adds) c.overflows-2.ensures.adds) c.or.ensures.adds) few
