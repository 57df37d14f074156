use Rattle.blast_value.proofs.Common.{◌<◌, length, sym, subst, IfOk-weaker, highest_bit}
use Rattle.blast_value.proofs.Moves.{asked_value}
use Rattle.blast_value.proofs.comparison.signs_differ.Goals as goal

pub returns-clause-value : goal.returns-clause-value
returns-clause-value g c =
    IfOk-weaker c.xor.result _ _ (λ made known inputs admitted.
    let value = g.C.State.value c.args.c.now inputs in
    let width_b : 0 < length c.args.b.now = subst (λ n. 0 < n) (sym c.requires.same_width) c.requires.width in
    let left = highest_bit value c.args.a.now c.sign.result c.requires.width c.sign.ensures in
    let right = highest_bit value c.args.b.now c.sign-2.result width_b c.sign-2.ensures in
    asked_value c.args.asked _ _ c.if-not-asked.false (rw (left, right, c.requires.same_width) at (known inputs admitted)))
    c.xor.ensures.value
