use Rattle.circuits.proofs.Common.{◌<◌, length, subst, sym, ap, arith, All}
use Rattle.circuits.proofs.Compared.{equal_more}
use Rattle.circuits.proofs.Kept.{Adds-trans, Adds-weaken, own_at}
use Rattle.circuits.proofs.compare.equal.Goals as goal

pub loop-i-preserved : goal.loop-i-preserved
loop-i-preserved g c =
    let a = c.as_slice-a.result.now in
    let b = c.as_slice-b.result.now in
    let in_a : c.loop-i.i < length a = omega arith in
    let in_b : c.loop-i.i < length b = omega (arith, ap length c.as_slice-a.ensures, ap length c.as_slice-b.ensures) in
    let own_a : All (g.C.State.has_literal c.args.c.now) a = subst (λ w. All (g.C.State.has_literal c.args.c.now) w) (sym c.as_slice-a.ensures) c.requires.own_a in
    let own_b : All (g.C.State.has_literal c.args.c.now) b = subst (λ w. All (g.C.State.has_literal c.args.c.now) w) (sym c.as_slice-b.ensures) c.requires.own_b in
    let before = c.loop-i.invariant in
    (Adds-weaken (Adds-trans before.0 c.equal_above.ensures.adds) (omega arith), c.in_ok-same.ensures.own, λ inputs admitted. equal_more before.0.keeps a b own_a own_b c.loop-i.i in_a in_b _ _ c.index-a-i.is c.index-b-i.is inputs admitted _ _ (before.2 inputs admitted) (c.in_ok-same.ensures.value inputs (before.0.keeps.admitted inputs admitted)))

pub equal_above-requires-clause-own_x : goal.equal_above-requires-clause-own_x
equal_above-requires-clause-own_x g c =
    let a = c.as_slice-a.result.now in
    let inside : c.loop-i.i < length a = omega arith in
    let own : All (g.C.State.has_literal c.args.c.now) a = subst (λ w. All (g.C.State.has_literal c.args.c.now) w) (sym c.as_slice-a.ensures) c.requires.own_a in
    c.loop-i.invariant.0.keeps.literals c.index-a-i.result (own_at (g.C.State.has_literal c.args.c.now) a c.loop-i.i c.index-a-i.result own inside c.index-a-i.is)

pub equal_above-requires-clause-own_y : goal.equal_above-requires-clause-own_y
equal_above-requires-clause-own_y g c =
    let b = c.as_slice-b.result.now in
    let inside : c.loop-i.i < length b = omega (arith, ap length c.as_slice-a.ensures, ap length c.as_slice-b.ensures) in
    let own : All (g.C.State.has_literal c.args.c.now) b = subst (λ w. All (g.C.State.has_literal c.args.c.now) w) (sym c.as_slice-b.ensures) c.requires.own_b in
    c.loop-i.invariant.0.keeps.literals c.index-b-i.result (own_at (g.C.State.has_literal c.args.c.now) b c.loop-i.i c.index-b-i.result own inside c.index-b-i.is)

pub returns-in_err-same-clause-adds : goal.returns-in_err-same-clause-adds
returns-in_err-same-clause-adds g c = Adds-weaken (Adds-trans c.loop-i.invariant.0 c.equal_above.ensures.adds) (omega (arith, ap length c.as_slice-a.ensures))

pub returns-clause-adds : goal.returns-clause-adds
returns-clause-adds g c = Adds-weaken c.loop-i.invariant.0 (omega (arith, ap length c.as_slice-a.ensures))
