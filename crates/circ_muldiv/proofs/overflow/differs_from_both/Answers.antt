use Rattle.circ_muldiv.proofs.Common.{◌&&◌, ap, ◌∙◌, arith, xor, IfOk-weaker, Adds-trans, Adds-weaken}
use Rattle.circ_muldiv.proofs.overflow.differs_from_both.Goals as goal

pub returns-in_err-from_y-clause-adds : goal.returns-in_err-from_y-clause-adds
returns-in_err-from_y-clause-adds g c = Adds-weaken c.xor.ensures.adds (omega arith)

pub returns-in_err-from_z-clause-adds : goal.returns-in_err-from_z-clause-adds
returns-in_err-from_z-clause-adds g c = Adds-weaken (Adds-trans c.xor.ensures.adds c.xor-2.ensures.adds) (omega arith)

pub returns-clause-adds : goal.returns-clause-adds
returns-clause-adds g c = Adds-trans (Adds-trans c.xor.ensures.adds c.xor-2.ensures.adds) c.and.ensures.adds

pub xor-requires-2-clause-own_a : goal.xor-requires-2-clause-own_a
xor-requires-2-clause-own_a g c = c.xor.ensures.adds.keeps.literals c.args.x c.requires.own_x

pub xor-requires-2-clause-own_b : goal.xor-requires-2-clause-own_b
xor-requires-2-clause-own_b g c = c.xor.ensures.adds.keeps.literals c.args.z c.requires.own_z

pub and-requires-clause-own_a : goal.and-requires-clause-own_a
and-requires-clause-own_a g c = c.xor-2.ensures.adds.keeps.literals c.in_ok-from_y.from_y c.in_ok-from_y.ensures.own

pub returns-clause-value : goal.returns-clause-value
returns-clause-value g c =
    let m = g.C.State in
    let k1 = c.xor.ensures.adds.keeps in
    let k2 = c.xor-2.ensures.adds.keeps in
    IfOk-weaker c.and.result _ _ (λ made known inputs admitted.
    let v0 = m.value c.args.c.now inputs in
    let v1 = m.value c.xor.new.self inputs in
    let v2 = m.value c.xor-2.new.self inputs in
    let after_1 = k1.admitted inputs admitted in
    known inputs (k2.admitted inputs after_1)
    ∙ ap (λ p. p && v2 c.in_ok-from_z.from_z) (k2.values inputs c.in_ok-from_y.from_y after_1 c.in_ok-from_y.ensures.own ∙ c.in_ok-from_y.ensures.value inputs admitted)
    ∙ ap (λ p. xor (v0 c.args.x) (v0 c.args.y) && p)
    (c.in_ok-from_z.ensures.value inputs after_1
    ∙ ap (λ q. xor q (v1 c.args.z)) (k1.values inputs c.args.x admitted c.requires.own_x)
    ∙ ap (λ q. xor (v0 c.args.x) q) (k1.values inputs c.args.z admitted c.requires.own_z)))
    c.and.ensures.value
