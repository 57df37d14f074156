use Rattle.blast_value.proofs.Common.{◌≤◌, ◌+◌, length, ◌∙◌, arith, equality_gates, map-kept, Keeps-trans, Adds-trans, Adds-weaken, intrinsic_gates, unary_gates}
use Rattle.blast_value.proofs.Intrinsics.{unary_effect}
use Rattle.blast_value.proofs.one_operand.unary_effect.Goals as goal

pub returns-clause-effect : goal.returns-clause-effect
returns-clause-effect g c inputs admitted =
    let k1 = c.at_number.ensures.adds.keeps in
    let k2 = c.is_poison.ensures.adds.keeps in
    let k3 = c.or.ensures.adds.keeps in
    let at_1 = k1.admitted inputs admitted in
    let at_2 = k2.admitted inputs at_1 in
    let at_3 = k3.admitted inputs at_2 in
    let operand_kept = map-kept k1 inputs admitted c.args.a.now.bits c.requires.own_a.bits in
    let bits_kept = map-kept (Keeps-trans k2 k3) inputs at_1 c.in_ok-bits.bits c.in_ok-bits.ensures.own in
    let poison_kept = (Keeps-trans k1 k2).values inputs c.args.a.now.poison admitted c.requires.own_a.poison in
    let number = rw c.requires.width_a at (c.in_ok-bits.ensures.number inputs admitted) in
    let excluded = rw operand_kept at (c.in_ok-excluded.ensures.value inputs at_1) in
    let poison = rw poison_kept at (c.in_ok-poison.ensures.value inputs at_2) in
    rw bits_kept
    (unary_effect c.args.op c.args.truth c.args.width _ _ _ _ _ _ _ _ (c.zero.ensures.value inputs at_3) poison excluded (c.in_ok-bits.ensures.width ∙ c.requires.width_a) number)

pub returns-in_err-bits-clause-adds : goal.returns-in_err-bits-clause-adds
returns-in_err-bits-clause-adds g c =
    let few : intrinsic_gates c.args.op (length c.args.a.now.bits) ≤ unary_gates c.args.op c.args.width = rw c.requires.width_a (omega arith) in
    Adds-weaken c.at_number.ensures.adds few

pub returns-in_err-excluded-clause-adds : goal.returns-in_err-excluded-clause-adds
returns-in_err-excluded-clause-adds g c =
    let few : intrinsic_gates c.args.op (length c.args.a.now.bits) + equality_gates (length c.args.a.now.bits) ≤ unary_gates c.args.op c.args.width = rw c.requires.width_a (omega arith) in
    Adds-weaken (Adds-trans c.at_number.ensures.adds c.is_poison.ensures.adds) few

pub returns-in_err-poison-clause-adds : goal.returns-in_err-poison-clause-adds
returns-in_err-poison-clause-adds g c =
    let few : intrinsic_gates c.args.op (length c.args.a.now.bits) + equality_gates (length c.args.a.now.bits) + 1 ≤ unary_gates c.args.op c.args.width = rw c.requires.width_a (omega arith) in
    Adds-weaken (Adds-trans (Adds-trans c.at_number.ensures.adds c.is_poison.ensures.adds) c.or.ensures.adds) few

pub returns-clause-adds : goal.returns-clause-adds
returns-clause-adds g c =
    let few : intrinsic_gates c.args.op (length c.args.a.now.bits) + equality_gates (length c.args.a.now.bits) + 1 ≤ unary_gates c.args.op c.args.width = rw c.requires.width_a (omega arith) in
    Adds-weaken (Adds-trans (Adds-trans c.at_number.ensures.adds c.is_poison.ensures.adds) c.or.ensures.adds) few
