use Rattle.blast_value.proofs.Common.{◌≤◌, ◌+◌, arith, map-kept, Keeps-trans, Adds-trans, Adds-weaken, poison_gates}
use Rattle.blast_value.proofs.Effects.{strict_effect}
use Rattle.blast_value.proofs.strict.with_poison.Goals as goal

pub returns-clause-effect : goal.returns-clause-effect
returns-clause-effect g c inputs admitted =
    let k1 = c.or.ensures.adds.keeps in
    let both = Keeps-trans k1 c.or-2.ensures.adds.keeps in
    let value = g.C.State.value c.args.c.now inputs in
    let made_kept = k1.values inputs c.args.made.poison admitted c.requires.own.poison in
    let bits_kept = map-kept both inputs admitted c.args.made.bits c.requires.own.bits in
    let poison_is = c.in_ok-poison.ensures.value inputs (k1.admitted inputs admitted) in
    rw bits_kept (strict_effect _ _ (value c.args.poison_a) (value c.args.poison_b) (value c.args.made.poison) _ (c.zero.ensures.value inputs (both.admitted inputs admitted)) (rw (c.in_ok-operand.ensures.value inputs admitted, made_kept) at poison_is))

pub returns-in_err-operand-clause-adds : goal.returns-in_err-operand-clause-adds
returns-in_err-operand-clause-adds g c =
    let few : 1 ≤ poison_gates = omega arith in
    Adds-weaken c.or.ensures.adds few

pub returns-in_err-poison-clause-adds : goal.returns-in_err-poison-clause-adds
returns-in_err-poison-clause-adds g c =
    let few : 1 + 1 ≤ poison_gates = omega arith in
    Adds-weaken (Adds-trans c.or.ensures.adds c.or-2.ensures.adds) few

pub returns-clause-adds : goal.returns-clause-adds
returns-clause-adds g c =
    let few : 1 + 1 ≤ poison_gates = omega arith in
    Adds-weaken (Adds-trans c.or.ensures.adds c.or-2.ensures.adds) few
