use Rattle.circuits.proofs.Common.{length, map, sym, ap, subst, ◌∙◌, arith, All, IfOk-weaker}
use Rattle.circuits.proofs.Chosen.{chosen}
use Rattle.circuits.proofs.Kept.{All-kept, map-kept, Adds-trans, Adds-weaken}
use Rattle.circuits.proofs.extreme.minimum.Goals as goal

pub returns-clause-number : goal.returns-clause-number
returns-clause-number g c =
    let m = g.C.State in
    let keeps = c.less.ensures.adds.keeps in
    let now = m.value c.less.new.c in
    IfOk-weaker c.select.result _ _ (λ word known inputs admitted.
    chosen _ _ _ _ _ _ _ (known inputs (keeps.admitted inputs admitted)) (c.in_ok-a_is_less.ensures.value inputs admitted)
    (ap (map (now inputs)) c.as_slice.ensures ∙ map-kept keeps inputs admitted c.args.a.now c.requires.own_a)
    (ap (map (now inputs)) c.as_slice-2.ensures ∙ map-kept keeps inputs admitted c.args.b.now c.requires.own_b))
    c.select.ensures.values

pub select-requires-clause-same_width : goal.select-requires-clause-same_width
select-requires-clause-same_width g c = ap length c.as_slice-2.ensures ∙ c.requires.same_width ∙ sym (ap length c.as_slice.ensures)

pub select-requires-clause-own_yes : goal.select-requires-clause-own_yes
select-requires-clause-own_yes g c =
    subst (All (g.C.State.has_literal c.less.new.c)) (sym c.as_slice.ensures) (All-kept c.less.ensures.adds.keeps c.args.a.now c.requires.own_a)

pub select-requires-clause-own_no : goal.select-requires-clause-own_no
select-requires-clause-own_no g c =
    subst (All (g.C.State.has_literal c.less.new.c)) (sym c.as_slice-2.ensures) (All-kept c.less.ensures.adds.keeps c.args.b.now c.requires.own_b)

pub returns-in_err-a_is_less-clause-adds : goal.returns-in_err-a_is_less-clause-adds
returns-in_err-a_is_less-clause-adds g c = Adds-weaken c.less.ensures.adds (omega arith)

pub returns-clause-width : goal.returns-clause-width
returns-clause-width g c = IfOk-weaker c.select.result _ _ (λ word known. known ∙ ap length c.as_slice.ensures) c.select.ensures.width

pub returns-clause-adds : goal.returns-clause-adds
returns-clause-adds g c = Adds-weaken (Adds-trans c.less.ensures.adds c.select.ensures.adds) (omega (arith, ap length c.as_slice.ensures))
