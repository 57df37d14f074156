use Rattle.blast_value.proofs.Common.{length, ap, ◌∙◌, IfOk-weaker, unsigned_abs, at_number, number_of}
use Rattle.blast_value.proofs.BinaryDigits.{ones_counted, leading_counted, trailing_counted}
use Rattle.blast_value.proofs.Numbers.{signed_same}
use Rattle.blast_value.proofs.one_operand.at_number.Goals as goal

pub returns-in-Abs-clause-number : goal.returns-in-Abs-clause-number
unfolding at_number
returns-in-Abs-clause-number g c =
    IfOk-weaker c.absolute.result _ _ (λ word known inputs admitted.
    rw c.in-Abs.is (known inputs admitted ∙ ap unsigned_abs (signed_same (length c.args.a.now) (number_of (g.C.State.value c.args.c.now inputs) c.args.a.now))))
    c.absolute.ensures.number

pub returns-in-CtPop-clause-number : goal.returns-in-CtPop-clause-number
unfolding at_number
returns-in-CtPop-clause-number g c =
    IfOk-weaker c.count_ones.result _ _ (λ word known inputs admitted.
    rw c.in-CtPop.is (known inputs admitted ∙ ones_counted (g.C.State.value c.args.c.now inputs) c.args.a.now))
    c.count_ones.ensures.number

pub returns-in-CtLz-clause-number : goal.returns-in-CtLz-clause-number
unfolding at_number
returns-in-CtLz-clause-number g c =
    IfOk-weaker c.leading_zeros.result _ _ (λ word known inputs admitted.
    rw c.in-CtLz.is (known inputs admitted ∙ leading_counted (g.C.State.value c.args.c.now inputs) c.args.a.now))
    c.leading_zeros.ensures.number

pub returns-in-CtTz-clause-number : goal.returns-in-CtTz-clause-number
unfolding at_number
returns-in-CtTz-clause-number g c =
    IfOk-weaker c.trailing_zeros.result _ _ (λ word known inputs admitted.
    rw c.in-CtTz.is (known inputs admitted ∙ trailing_counted (g.C.State.value c.args.c.now inputs) c.args.a.now))
    c.trailing_zeros.ensures.number
