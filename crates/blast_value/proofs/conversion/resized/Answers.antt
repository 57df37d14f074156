use Rattle.blast_value.proofs.Common.{length, ◌∙◌, arith, IfOk-weaker, converted, number_of, number_below, highest_bit}
use Rattle.blast_value.proofs.Numbers.{residue-extended, extended_by_zeros}
use Rattle.blast_value.proofs.conversion.resized.Goals as goal

pub returns-in-Trunc-clause-number : goal.returns-in-Trunc-clause-number
unfolding converted
returns-in-Trunc-clause-number g c =
    IfOk-weaker c.cut.result _ _ (λ word known inputs admitted.
    rw c.in-Trunc.is (rw c.bits-to.ensures.bits at (known inputs admitted)))
    c.cut.ensures.number

pub returns-in-ZExt-clause-number : goal.returns-in-ZExt-clause-number
unfolding converted
returns-in-ZExt-clause-number g c =
    IfOk-weaker c.extend.result _ _ (λ word known inputs admitted.
    rw c.in-ZExt.is (rw (c.zero.ensures.value inputs admitted) at (known inputs admitted) ∙ extended_by_zeros _ _))
    c.extend.ensures.number

pub returns-in-SExt-clause-number : goal.returns-in-SExt-clause-number
unfolding converted
returns-in-SExt-clause-number g c =
    let wider = rw c.in-SExt.is at c.requires.cast in
    let a = c.args.a.now in
    IfOk-weaker c.extend-in-SExt.result _ _ (λ word known inputs admitted.
    let value = g.C.State.value c.args.c.now inputs in
    rw c.in-SExt.is (rw c.bits-to.ensures.bits at (known inputs admitted)
    ∙ residue-extended (length a) c.args.width (number_of value a) (value c.sign.result) (omega arith) wider (number_below value a) (highest_bit value a c.sign.result c.requires.width c.sign.ensures)))
    c.extend-in-SExt.ensures.number
