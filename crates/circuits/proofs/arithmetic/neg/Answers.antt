use Rattle.circuits.proofs.Common.{◌≡◌, length, replicate, sym, ap, subst, ◌∙◌, arith, All, length-replicate, All-replicate, IfOk-weaker, number_of}
use Rattle.circuits.proofs.Kept.{Adds-none, Adds-weaken}
use Rattle.circuits.proofs.Words.{number-neg}
use Rattle.circuits.proofs.arithmetic.neg.Goals as goal

pub returns-in_err-zeros-clause-adds : goal.returns-in_err-zeros-clause-adds
returns-in_err-zeros-clause-adds g c = Adds-none

pub sub-requires-clause-same_width : goal.sub-requires-clause-same_width
sub-requires-clause-same_width g c =
    sym (ap length c.in_ok-zeros.ensures ∙ length-replicate c.len.result c.zero.result ∙ c.len.ensures)

pub sub-requires-clause-own_a : goal.sub-requires-clause-own_a
sub-requires-clause-own_a g c =
    let P = g.C.State.has_literal c.args.c.now in
    subst (All P) (sym c.in_ok-zeros.ensures) (All-replicate P c.len.result c.zero.result c.zero.ensures.own)

pub returns-clause-width : goal.returns-clause-width
returns-clause-width g c =
    let width : length c.in_ok-zeros.zeros ≡ length c.args.a.now = ap length c.in_ok-zeros.ensures ∙ length-replicate c.len.result c.zero.result ∙ c.len.ensures in
    IfOk-weaker c.sub.result _ _ (λ negation known. known ∙ width) c.sub.ensures.width

pub returns-clause-number : goal.returns-clause-number
returns-clause-number g c =
    let zeros_are : c.in_ok-zeros.zeros ≡ replicate (length c.args.a.now) c.zero.result = c.in_ok-zeros.ensures ∙ ap (λ n. replicate n c.zero.result) c.len.ensures in
    IfOk-weaker c.sub.result _ _ (λ negation known inputs admitted.
    let value = g.C.State.value c.args.c.now inputs in
    number-neg value (length c.args.a.now) (number_of value c.args.a.now) _ c.in_ok-zeros.zeros c.zero.result zeros_are (c.zero.ensures.value inputs admitted) (known inputs admitted))
    c.sub.ensures.number

pub returns-clause-adds : goal.returns-clause-adds
returns-clause-adds g c =
    let width : length c.in_ok-zeros.zeros ≡ length c.args.a.now = ap length c.in_ok-zeros.ensures ∙ length-replicate c.len.result c.zero.result ∙ c.len.ensures in
    Adds-weaken c.sub.ensures.adds (omega arith)
