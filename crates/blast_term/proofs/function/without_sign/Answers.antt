use Rattle.blast_term.proofs.Common.{◌≡◌, ◌≤◌, ◌+◌, nat_lt, length, ap, ◌∙◌, arith, IfOk-weaker, least, number, number_of, adder_gates, comparison_gates, select_gates, Adds-trans, Adds-weaken, Keeps-trans, All-kept, map-kept, Abs, function_gates}
use Rattle.blast_term.proofs.Functions.{sign-choice}
use Rattle.blast_term.proofs.function.without_sign.Goals as goal

pub is_below_least-requires-clause-width : goal.is_below_least-requires-clause-width
is_below_least-requires-clause-width g c = c.requires.width

pub is_below_least-requires-clause-own : goal.is_below_least-requires-clause-own
is_below_least-requires-clause-own g c = c.requires.own

pub neg-requires : goal.neg-requires
neg-requires g c = All-kept c.is_below_least.ensures.adds.keeps c.args.word.now c.requires.own

pub select-requires-clause-same_width : goal.select-requires-clause-same_width
select-requires-clause-same_width g c = rw (c.as_slice.ensures, c.as_slice-2.ensures) c.in_ok-negated.ensures.width

pub select-requires-clause-own_condition : goal.select-requires-clause-own_condition
select-requires-clause-own_condition g c = c.neg.ensures.adds.keeps.literals c.in_ok-is_below.is_below c.in_ok-is_below.ensures.own

pub select-requires-clause-own_yes : goal.select-requires-clause-own_yes
select-requires-clause-own_yes g c = rw c.as_slice.ensures (All-kept (Keeps-trans c.is_below_least.ensures.adds.keeps c.neg.ensures.adds.keeps) c.args.word.now c.requires.own)

pub select-requires-clause-own_no : goal.select-requires-clause-own_no
select-requires-clause-own_no g c = rw c.as_slice-2.ensures c.in_ok-negated.ensures.own

pub returns-clause-number : goal.returns-clause-number
returns-clause-number g c = IfOk-weaker c.select.result _ _ (λ made known inputs admitted.
    let m = g.C.State in
    let k1 = c.is_below_least.ensures.adds.keeps in
    let k2 = c.neg.ensures.adds.keeps in
    let a1 = k1.admitted inputs admitted in
    let a2 = k2.admitted inputs a1 in
    let start = m.value c.args.c.now inputs in
    let word = c.args.word.now in
    let word_same = map-kept (Keeps-trans k1 k2) inputs admitted word c.requires.own in
    let word_before = map-kept k1 inputs admitted word c.requires.own in
    let below : m.value c.neg.new.c inputs c.in_ok-is_below.is_below ≡ nat_lt (number_of start word) (least c.args.width) =
    k2.values inputs c.in_ok-is_below.is_below a1 c.in_ok-is_below.ensures.own ∙ c.in_ok-is_below.ensures.value inputs admitted in
    let negated = rw (word_before, c.requires.width) at (c.in_ok-negated.ensures.number inputs a1) in
    ap number (known inputs a2) ∙ rw (c.as_slice.ensures, c.as_slice-2.ensures)
    (sign-choice _ c.args.width (number_of start word) _ _ below (ap number word_same) negated))
    c.select.ensures.values

pub returns-clause-width : goal.returns-clause-width
returns-clause-width g c = IfOk-weaker c.select.result _ _ (λ made is. is ∙ ap length c.as_slice.ensures ∙ c.requires.width) c.select.ensures.width

pub returns-clause-own : goal.returns-clause-own
returns-clause-own g c = c.select.ensures.own

pub returns-in_err-is_below-clause-adds : goal.returns-in_err-is_below-clause-adds
returns-in_err-is_below-clause-adds g c = Adds-weaken c.is_below_least.ensures.adds (omega arith)

pub returns-in_err-negated-clause-adds : goal.returns-in_err-negated-clause-adds
returns-in_err-negated-clause-adds g c =
    let few : comparison_gates c.args.width + adder_gates (length c.args.word.now) ≤ function_gates Abs c.args.width = rw c.requires.width (omega arith) in
    Adds-weaken (Adds-trans c.is_below_least.ensures.adds c.neg.ensures.adds) few

pub returns-clause-adds : goal.returns-clause-adds
returns-clause-adds g c =
    let few : comparison_gates c.args.width + adder_gates (length c.args.word.now) + select_gates (length c.as_slice.result.now) ≤ function_gates Abs c.args.width = rw (c.as_slice.ensures, c.requires.width) (omega arith) in
    Adds-weaken (Adds-trans (Adds-trans c.is_below_least.ensures.adds c.neg.ensures.adds) c.select.ensures.adds) few
