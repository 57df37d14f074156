use Rattle.circ_muldiv.proofs.Common.{◌≤◌, ◌+◌, length, sym, ap, subst, ◌∙◌, arith, All, IfOk-weaker, adder_gates, select_gates, All-kept, map-kept, Adds-trans, Adds-weaken, absolute_gates}
use Rattle.circ_muldiv.proofs.SignedQuotients.{negated_value}
use Rattle.circ_muldiv.proofs.signed_division.negated_where.Goals as goal

pub returns-clause-number : goal.returns-clause-number
returns-clause-number g c =
    let m = g.C.State in
    let keeps = c.neg.ensures.adds.keeps in
    IfOk-weaker c.select.result _ _ (λ made known inputs admitted.
    negated_value (m.value c.args.c.now inputs) (m.value c.neg.new.c inputs) (m.value c.select.new.c inputs) c.args.word.now c.in_ok-negation.negation made c.args.negative (keeps.values inputs c.args.negative admitted c.requires.own_negative) (map-kept keeps inputs admitted c.args.word.now c.requires.own_word) (c.in_ok-negation.ensures.number inputs admitted)
    (rw (c.as_slice.ensures, c.as_slice-2.ensures) at (known inputs (keeps.admitted inputs admitted))))
    c.select.ensures.values

pub returns-in_err-negation-clause-adds : goal.returns-in_err-negation-clause-adds
returns-in_err-negation-clause-adds g c = Adds-weaken c.neg.ensures.adds (omega arith)

pub returns-clause-adds : goal.returns-clause-adds
returns-clause-adds g c =
    let few : adder_gates (length c.args.word.now) + select_gates (length c.as_slice.result.now) ≤ absolute_gates (length c.args.word.now) = rw (ap length c.as_slice.ensures ∙ c.in_ok-negation.ensures.width) (omega arith) in
    Adds-weaken (Adds-trans c.neg.ensures.adds c.select.ensures.adds) few

pub select-requires-clause-same_width : goal.select-requires-clause-same_width
select-requires-clause-same_width g c = ap length c.as_slice-2.ensures ∙ sym (ap length c.as_slice.ensures ∙ c.in_ok-negation.ensures.width)

pub select-requires-clause-own_condition : goal.select-requires-clause-own_condition
select-requires-clause-own_condition g c =
    c.neg.ensures.adds.keeps.literals c.args.negative c.requires.own_negative

pub select-requires-clause-own_yes : goal.select-requires-clause-own_yes
select-requires-clause-own_yes g c = subst (All (g.C.State.has_literal c.neg.new.c)) (sym c.as_slice.ensures) c.in_ok-negation.ensures.own

pub select-requires-clause-own_no : goal.select-requires-clause-own_no
select-requires-clause-own_no g c =
    subst (All (g.C.State.has_literal c.neg.new.c)) (sym c.as_slice-2.ensures) (All-kept c.neg.ensures.adds.keeps c.args.word.now c.requires.own_word)

pub returns-clause-width : goal.returns-clause-width
returns-clause-width g c =
    IfOk-weaker c.select.result _ _ (λ made known. known ∙ ap length c.as_slice.ensures ∙ c.in_ok-negation.ensures.width) c.select.ensures.width
