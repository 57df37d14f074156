use Rattle.circuits.proofs.Common.{length, sym, ap, subst, ◌∙◌, arith, All, IfOk-weaker}
use Rattle.circuits.proofs.Kept.{Adds-none, Adds-weaken}
use Rattle.circuits.proofs.Signed.{less_raised}
use Rattle.circuits.proofs.compare.less_signed.Goals as goal

pub returns-clause-value : goal.returns-clause-value
returns-clause-value g c =
    IfOk-weaker c.less_unsigned.result _ _ (λ less known inputs admitted.
    let value = g.C.State.value c.args.c.now inputs in
    known inputs admitted ∙ less_raised value c.args.a.now c.args.b.now _ _ c.requires.width c.requires.same_width
    (rw c.as_slice.ensures at (c.in_ok-raised_a.ensures.number inputs admitted))
    (rw c.as_slice-2.ensures at (c.in_ok-raised_b.ensures.number inputs admitted)))
    c.less_unsigned.ensures.value

pub raised-requires-clause-own : goal.raised-requires-clause-own
raised-requires-clause-own g c = subst (All (g.C.State.has_literal c.args.c.now)) (sym c.as_slice.ensures) c.requires.own_a

pub raised-requires-2-clause-own : goal.raised-requires-2-clause-own
raised-requires-2-clause-own g c = subst (All (g.C.State.has_literal c.args.c.now)) (sym c.as_slice-2.ensures) c.requires.own_b

pub less_unsigned-requires-clause-same_width : goal.less_unsigned-requires-clause-same_width
less_unsigned-requires-clause-same_width g c =
    c.in_ok-raised_b.ensures.width ∙ ap length c.as_slice-2.ensures ∙ c.requires.same_width ∙ sym (c.in_ok-raised_a.ensures.width ∙ ap length c.as_slice.ensures)

pub returns-in_err-raised_a-clause-adds : goal.returns-in_err-raised_a-clause-adds
returns-in_err-raised_a-clause-adds g c = Adds-none

pub returns-in_err-raised_b-clause-adds : goal.returns-in_err-raised_b-clause-adds
returns-in_err-raised_b-clause-adds g c = Adds-none

pub returns-clause-adds : goal.returns-clause-adds
returns-clause-adds g c = Adds-weaken c.less_unsigned.ensures.adds (omega (arith, c.in_ok-raised_a.ensures.width, ap length c.as_slice.ensures))
