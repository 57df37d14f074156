use Rattle.circ_muldiv.proofs.Common.{◌-◌, ◌<◌, ◌≤◌, length, ap, sym, ◌∙◌, arith, own_at, All-kept, Adds-refl, Adds-weaken}
use Rattle.circ_muldiv.proofs.Quotients.{stepped_init, stepped_more, stepped_within, stepped_adds, stepped_own, stepped_width, stepped_quotient, stepped_remainder}
use Rattle.circ_muldiv.proofs.division.divide_unsigned.Goals as goal

pub loop-i-init : goal.loop-i-init
loop-i-init g c =
    stepped_init _ _ c.zero.result _ c.new-quotient.ensures.items c.in_ok-remainder.ensures (ap length c.as_slice-dividend.ensures) c.requires.same_width c.zero.ensures.own c.zero.ensures.value

pub divide_step-requires-clause-same_width : goal.divide_step-requires-clause-same_width
divide_step-requires-clause-same_width g c =
    ap length c.as_slice.ensures ∙ c.loop-i.invariant.remainder_width ∙ sym (ap length c.as_slice-in-loop-i.ensures)

pub divide_step-requires-clause-own_digit : goal.divide_step-requires-clause-own_digit
divide_step-requires-clause-own_digit g c =
    let inside : c.loop-i.i - 1 < length c.args.a.now = omega (arith, ap length c.as_slice-dividend.ensures) in
    c.loop-i.invariant.adds.keeps.literals c.index-dividend-i.result
    (own_at (g.C.State.has_literal c.args.c.now) c.args.a.now (c.loop-i.i - 1) c.index-dividend-i.result c.requires.own_a inside (rw c.as_slice-dividend.ensures at c.index-dividend-i.is))

pub divide_step-requires-clause-own_remainder : goal.divide_step-requires-clause-own_remainder
divide_step-requires-clause-own_remainder g c = rw c.as_slice.ensures c.loop-i.invariant.own_remainder

pub divide_step-requires-clause-own_divisor : goal.divide_step-requires-clause-own_divisor
divide_step-requires-clause-own_divisor g c = rw c.as_slice-in-loop-i.ensures (All-kept c.loop-i.invariant.adds.keeps c.args.b.now c.requires.own_b)

pub returns-in_err-step-clause-adds : goal.returns-in_err-step-clause-adds
returns-in_err-step-clause-adds g c =
    stepped_within c.loop-i.invariant (omega arith) (omega (arith, ap length c.as_slice-dividend.ensures)) c.requires.same_width (rw c.as_slice-in-loop-i.ensures at c.divide_step.ensures.adds)

pub returns-in_err-push-clause-adds : goal.returns-in_err-push-clause-adds
returns-in_err-push-clause-adds g c =
    stepped_within c.loop-i.invariant (omega arith) (omega (arith, ap length c.as_slice-dividend.ensures)) c.requires.same_width (rw c.as_slice-in-loop-i.ensures at c.divide_step.ensures.adds)

pub loop-i-preserved : goal.loop-i-preserved
loop-i-preserved g c =
    let some : 0 < c.loop-i.i = omega arith in
    let within : c.loop-i.i ≤ length c.args.a.now = omega (arith, ap length c.as_slice-dividend.ensures) in
    rw c.in_ok-push.ensures.items
    (stepped_more c.in_ok-step.step.remainder c.index-dividend-i.result c.in_ok-step.step.fits c.loop-i.invariant some within c.requires.own_a c.requires.own_b
    (rw c.as_slice-dividend.ensures at c.index-dividend-i.is)
    (rw c.as_slice-in-loop-i.ensures at c.divide_step.ensures.adds)
    c.in_ok-step.ensures.own_fits c.in_ok-step.ensures.own_remainder
    (c.in_ok-step.ensures.width ∙ ap length c.as_slice-in-loop-i.ensures)
    (rw (c.as_slice.ensures, c.as_slice-in-loop-i.ensures) at c.in_ok-step.ensures.fits)
    (rw (c.as_slice.ensures, c.as_slice-in-loop-i.ensures) at c.in_ok-step.ensures.left))

pub returns-clause-own_quotient : goal.returns-clause-own_quotient
returns-clause-own_quotient g c = stepped_own _ c.loop-i.invariant (c.from_vec.ensures ∙ c.reverse.ensures.items)

pub returns-clause-own_remainder : goal.returns-clause-own_remainder
returns-clause-own_remainder g c = c.loop-i.invariant.own_remainder

pub returns-clause-quotient_width : goal.returns-clause-quotient_width
returns-clause-quotient_width g c = stepped_width _ c.loop-i.invariant (omega arith) (c.from_vec.ensures ∙ c.reverse.ensures.items)

pub returns-clause-remainder_width : goal.returns-clause-remainder_width
returns-clause-remainder_width g c = c.loop-i.invariant.remainder_width ∙ c.requires.same_width

pub returns-clause-quotient : goal.returns-clause-quotient
returns-clause-quotient g c = stepped_quotient _ c.loop-i.invariant (omega arith) (c.from_vec.ensures ∙ c.reverse.ensures.items)

pub returns-clause-remainder : goal.returns-clause-remainder
returns-clause-remainder g c = stepped_remainder _ c.loop-i.invariant (omega arith) (c.from_vec.ensures ∙ c.reverse.ensures.items)

pub returns-clause-adds : goal.returns-clause-adds
returns-clause-adds g c = stepped_adds c.loop-i.invariant (omega arith) c.requires.same_width

pub returns-in_err-remainder-clause-adds : goal.returns-in_err-remainder-clause-adds
returns-in_err-remainder-clause-adds g c = Adds-weaken Adds-refl (omega arith)
