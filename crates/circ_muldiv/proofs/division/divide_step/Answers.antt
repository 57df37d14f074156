use Rattle.circ_muldiv.proofs.Common.{◌≡◌, ℕ, ◌≤◌, ◌+◌, List, length, take, ◌∷◌, sym, ap, subst, ◌∙◌, arith, All, All-cons, All-take, length-take-le, Ghosts, Adds, adder_gates, select_gates, All-kept, map-kept, Adds-refl, Adds-trans, Adds-weaken, division_step_gates}
use Rattle.circ_muldiv.proofs.Quotients.{step_left}
use Rattle.circ_muldiv.proofs.division.divide_step.Goals as goal

-- the gates of one step: a difference, and a choice by it between the lowest bits of two words
step_adds : {C L : Type 0} {state : Ghosts C L} {start mid end : C} {bits whole : List L} (width : ℕ) → length bits ≡ width + 1 → whole ≡ bits → Adds state start mid (adder_gates (width + 1)) → Adds state mid end (select_gates (length (take width whole))) → Adds state start end (division_step_gates width)
step_adds {whole = whole} width longer same less chosen =
    let within : length whole ≡ width + 1 = ap length same ∙ longer in
    let cut : length (take width whole) ≡ width = length-take-le width whole (omega arith) in
    let few : adder_gates (width + 1) + select_gates (length (take width whole)) ≤ division_step_gates width = rw cut (omega arith) in
    Adds-weaken (Adds-trans less chosen) few

pub returns-clause-fits : goal.returns-clause-fits
returns-clause-fits g c inputs admitted =
    let longer_is : c.as_slice.result.now ≡ c.args.digit ∷ c.args.remainder.now = c.as_slice.ensures ∙ c.in_ok-longer.ensures in
    let after = c.difference.ensures.adds.keeps.admitted inputs admitted in
    c.select.ensures.adds.keeps.values inputs c.in_ok-less.less.carry after c.in_ok-less.ensures.own_carry
    ∙ rw longer_is at (c.in_ok-less.ensures.fits inputs admitted)

pub returns-clause-left : goal.returns-clause-left
returns-clause-left g c inputs admitted =
    let m = g.C.State in
    let longer_is : c.as_slice.result.now ≡ c.args.digit ∷ c.args.remainder.now = c.as_slice.ensures ∙ c.in_ok-longer.ensures in
    let cut_is : c.as_slice-3.result.now ≡ c.args.digit ∷ c.args.remainder.now = c.as_slice-3.ensures ∙ sym c.as_slice.ensures ∙ longer_is in
    let keeps = c.difference.ensures.adds.keeps in
    let chosen = rw (c.as_slice-2.ensures, cut_is) at (c.in_ok-remainder.ensures.values inputs (keeps.admitted inputs admitted)) in
    step_left (m.value c.args.c.now inputs) (m.value c.difference.new.c inputs) (m.value c.select.new.c inputs) c.args.divisor.now c.args.remainder.now c.in_ok-less.less.bits c.in_ok-remainder.remainder c.args.digit c.in_ok-less.less.carry c.requires.same_width c.in_ok-less.ensures.width (rw longer_is at (c.in_ok-less.ensures.fits inputs admitted)) (rw longer_is at (c.in_ok-less.ensures.left inputs admitted))
    (keeps.values inputs c.args.digit admitted c.requires.own_digit) (map-kept keeps inputs admitted c.args.remainder.now c.requires.own_remainder) chosen

pub returns-in_err-less-clause-adds : goal.returns-in_err-less-clause-adds
returns-in_err-less-clause-adds g c = Adds-weaken c.difference.ensures.adds (omega arith)

pub returns-in_err-remainder-clause-adds : goal.returns-in_err-remainder-clause-adds
returns-in_err-remainder-clause-adds g c = step_adds (length c.args.divisor.now) c.in_ok-less.ensures.width c.as_slice-2.ensures c.difference.ensures.adds c.select.ensures.adds

pub returns-clause-adds : goal.returns-clause-adds
returns-clause-adds g c = step_adds (length c.args.divisor.now) c.in_ok-less.ensures.width c.as_slice-2.ensures c.difference.ensures.adds c.select.ensures.adds

pub returns-in_err-longer-clause-adds : goal.returns-in_err-longer-clause-adds
returns-in_err-longer-clause-adds g c = Adds-weaken Adds-refl (omega arith)

pub difference-requires-clause-own_longer : goal.difference-requires-clause-own_longer
difference-requires-clause-own_longer g c =
    let P = g.C.State.has_literal c.args.c.now in
    subst (All P) (sym (c.as_slice.ensures ∙ c.in_ok-longer.ensures)) (All-cons P c.args.digit c.args.remainder.now c.requires.own_digit c.requires.own_remainder)

pub select-requires-clause-own_yes : goal.select-requires-clause-own_yes
select-requires-clause-own_yes g c =
    let P = g.C.State.has_literal c.difference.new.c in
    All-take P (length c.args.divisor.now) c.as_slice-2.result.now (subst (All P) (sym c.as_slice-2.ensures) c.in_ok-less.ensures.own_bits)

pub select-requires-clause-own_no : goal.select-requires-clause-own_no
select-requires-clause-own_no g c =
    let P = g.C.State.has_literal c.args.c.now in
    let Q = g.C.State.has_literal c.difference.new.c in
    let digit = c.args.digit in
    let higher = c.args.remainder.now in
    let own : All Q (digit ∷ higher) = All-kept c.difference.ensures.adds.keeps (digit ∷ higher) (All-cons P digit higher c.requires.own_digit c.requires.own_remainder) in
    All-take Q (length c.args.divisor.now) c.as_slice-3.result.now (subst (All Q) (sym (c.as_slice-3.ensures ∙ c.in_ok-longer.ensures)) own)

pub difference-requires-clause-width : goal.difference-requires-clause-width
difference-requires-clause-width g c = omega (arith, ap length (c.as_slice.ensures ∙ c.in_ok-longer.ensures), c.requires.same_width)

pub select-requires-clause-same_width : goal.select-requires-clause-same_width
select-requires-clause-same_width g c =
    let n = length c.args.divisor.now in
    let bits : length c.as_slice-2.result.now ≡ length c.args.divisor.now + 1 = ap length c.as_slice-2.ensures ∙ c.in_ok-less.ensures.width in
    let longer : length c.as_slice-3.result.now ≡ length c.args.divisor.now + 1 = omega (arith, ap length (c.as_slice-3.ensures ∙ c.in_ok-longer.ensures), c.requires.same_width) in
    length-take-le n c.as_slice-3.result.now (omega arith) ∙ sym (length-take-le n c.as_slice-2.result.now (omega arith))

pub returns-clause-own_fits : goal.returns-clause-own_fits
returns-clause-own_fits g c = c.select.ensures.adds.keeps.literals c.in_ok-less.less.carry c.in_ok-less.ensures.own_carry

pub returns-clause-width : goal.returns-clause-width
returns-clause-width g c =
    let bits : length c.as_slice-2.result.now ≡ length c.args.divisor.now + 1 = ap length c.as_slice-2.ensures ∙ c.in_ok-less.ensures.width in
    c.in_ok-remainder.ensures.width ∙ length-take-le (length c.args.divisor.now) c.as_slice-2.result.now (omega arith)
