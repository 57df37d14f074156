use Rattle.circ_muldiv.proofs.Common.{◌<◌, ◌≤◌, ◌+◌, ◌-◌, length, sym, ap, subst, ◌∙◌, arith, All, IfOk-weaker, adder_gates, select_gates, own_at, All-kept, map-kept, Adds-trans, Adds-weaken, absolute_gates}
use Rattle.circ_muldiv.proofs.OverflowTests.{absolute_value}
use Rattle.circ_muldiv.proofs.signs.absolute.Goals as goal

pub returns-clause-number : goal.returns-clause-number
returns-clause-number g c =
    let m = g.C.State in
    let inside : length c.args.a.now - 1 < length c.args.a.now = omega arith in
    let own_sign = own_at (m.has_literal c.args.c.now) c.args.a.now (length c.args.a.now - 1) c.sign.result c.requires.own inside c.sign.ensures in
    let keeps = c.neg.ensures.adds.keeps in
    IfOk-weaker c.select.result _ _ (λ word known inputs admitted.
    absolute_value (m.value c.args.c.now inputs) (m.value c.neg.new.c inputs) (m.value c.select.new.c inputs) c.args.a.now c.in_ok-negation.negation word c.sign.result c.requires.width c.sign.ensures (keeps.values inputs c.sign.result admitted own_sign) (map-kept keeps inputs admitted c.args.a.now c.requires.own) (c.in_ok-negation.ensures.number inputs admitted)
    (rw (c.as_slice.ensures, c.as_slice-2.ensures) at (known inputs (keeps.admitted inputs admitted))))
    c.select.ensures.values

pub returns-in_err-negation-clause-adds : goal.returns-in_err-negation-clause-adds
returns-in_err-negation-clause-adds g c = Adds-weaken c.neg.ensures.adds (omega arith)

pub returns-clause-adds : goal.returns-clause-adds
returns-clause-adds g c =
    let few : adder_gates (length c.args.a.now) + select_gates (length c.as_slice.result.now) ≤ absolute_gates (length c.args.a.now) = rw (ap length c.as_slice.ensures ∙ c.in_ok-negation.ensures.width) (omega arith) in
    Adds-weaken (Adds-trans c.neg.ensures.adds c.select.ensures.adds) few

pub select-requires-clause-same_width : goal.select-requires-clause-same_width
select-requires-clause-same_width g c = ap length c.as_slice-2.ensures ∙ sym (ap length c.as_slice.ensures ∙ c.in_ok-negation.ensures.width)

pub select-requires-clause-own_condition : goal.select-requires-clause-own_condition
select-requires-clause-own_condition g c =
    let inside : length c.args.a.now - 1 < length c.args.a.now = omega arith in
    c.neg.ensures.adds.keeps.literals c.sign.result (own_at (g.C.State.has_literal c.args.c.now) c.args.a.now (length c.args.a.now - 1) c.sign.result c.requires.own inside c.sign.ensures)

pub select-requires-clause-own_yes : goal.select-requires-clause-own_yes
select-requires-clause-own_yes g c = subst (All (g.C.State.has_literal c.neg.new.c)) (sym c.as_slice.ensures) c.in_ok-negation.ensures.own

pub select-requires-clause-own_no : goal.select-requires-clause-own_no
select-requires-clause-own_no g c =
    subst (All (g.C.State.has_literal c.neg.new.c)) (sym c.as_slice-2.ensures) (All-kept c.neg.ensures.adds.keeps c.args.a.now c.requires.own)

pub returns-clause-width : goal.returns-clause-width
returns-clause-width g c =
    IfOk-weaker c.select.result _ _ (λ made known. known ∙ ap length c.as_slice.ensures ∙ c.in_ok-negation.ensures.width) c.select.ensures.width
