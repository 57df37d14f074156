use Rattle.circuits.proofs.Common.{◌<◌, length, arith}
use Rattle.circuits.proofs.Kept.{own_at, Adds-trans, Adds-weaken}
use Rattle.circuits.proofs.Chain.{chain_step, chain_end, known_end}
use Rattle.circuits.proofs.adder.add_with_carry.Goals as goal

pub loop-i-preserved : goal.loop-i-preserved
loop-i-preserved g c =
    let in_a : c.loop-i.i < length c.args.a.now = omega arith in
    let in_b : c.loop-i.i < length c.args.b.now = omega arith in
    let step = chain_step c.loop-i.invariant c.full_adder.ensures.adds c.requires.own_a c.requires.own_b in_a in_b _ _ _ _ c.index-a-i.is c.index-b-i.is c.in_ok-sum.ensures.own_sum c.in_ok-sum.ensures.own_carry c.in_ok-sum.ensures.sum c.in_ok-sum.ensures.carry c.in_ok-sum.ensures.sum_known c.in_ok-sum.ensures.carry_known in
    rw c.in_ok-push.ensures.ok step

pub returns-clause-number : goal.returns-clause-number
returns-clause-number g c = chain_end c.loop-i.invariant (omega arith) (omega arith)

pub returns-clause-known : goal.returns-clause-known
returns-clause-known g c = known_end c.loop-i.invariant (omega arith) (omega arith)

pub full_adder-requires-clause-own_a : goal.full_adder-requires-clause-own_a
full_adder-requires-clause-own_a g c =
    let inside : c.loop-i.i < length c.args.a.now = omega arith in
    c.loop-i.invariant.adds.keeps.literals c.index-a-i.result (own_at (g.C.State.has_literal c.args.c.now) c.args.a.now c.loop-i.i c.index-a-i.result c.requires.own_a inside c.index-a-i.is)

pub full_adder-requires-clause-own_b : goal.full_adder-requires-clause-own_b
full_adder-requires-clause-own_b g c =
    let inside : c.loop-i.i < length c.args.b.now = omega arith in
    c.loop-i.invariant.adds.keeps.literals c.index-b-i.result (own_at (g.C.State.has_literal c.args.c.now) c.args.b.now c.loop-i.i c.index-b-i.result c.requires.own_b inside c.index-b-i.is)

pub returns-in_err-sum-clause-adds : goal.returns-in_err-sum-clause-adds
returns-in_err-sum-clause-adds g c = Adds-weaken (Adds-trans c.loop-i.invariant.adds c.full_adder.ensures.adds) (omega arith)

pub returns-in_err-push-clause-adds : goal.returns-in_err-push-clause-adds
returns-in_err-push-clause-adds g c = Adds-weaken (Adds-trans c.loop-i.invariant.adds c.full_adder.ensures.adds) (omega arith)

pub returns-clause-adds : goal.returns-clause-adds
returns-clause-adds g c = Adds-weaken c.loop-i.invariant.adds (omega arith)
