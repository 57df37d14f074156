use Rattle.circ_muldiv.proofs.Common.{◌-◌, ◌++◌, ◌∷◌, [], length, replicate, sym, ap, subst, ◌∙◌, arith, All, length_push, length-replicate, All-push, All-replicate}
use Rattle.circ_muldiv.proofs.OverflowTests.{greatest_is}
use Rattle.circ_muldiv.proofs.overflow.greatest.Goals as goal

pub returns-clause-number : goal.returns-clause-number
returns-clause-number g c inputs admitted =
    greatest_is (g.C.State.value c.args.c.now inputs) (c.args.width - 1) c.not.result c.args.negative c.push.new.self (c.in_ok-push.ensures.ok ∙ ap (λ word. word ++ c.args.negative ∷ []) c.in_ok-greatest.ensures) (c.not.ensures.value inputs admitted)

pub returns-clause-own : goal.returns-clause-own
returns-clause-own g c =
    let P = g.C.State.has_literal c.args.c.now in
    let lower = c.args.width - 1 in
    subst (All P) (sym (c.in_ok-push.ensures.ok ∙ ap (λ word. word ++ c.args.negative ∷ []) c.in_ok-greatest.ensures))
    (All-push P (replicate lower c.not.result) c.args.negative (All-replicate P lower c.not.result c.not.ensures.own) c.requires.own)

pub returns-clause-width : goal.returns-clause-width
returns-clause-width g c =
    let lower = c.args.width - 1 in
    omega (arith, ap length c.in_ok-push.ensures.ok, length_push c.in_ok-greatest.greatest c.args.negative, ap length c.in_ok-greatest.ensures, length-replicate lower c.not.result)
