use Rattle.blast_value.proofs.Common.{◌<◌, ◌^◌, length, subst, ◌∙◌, IfOk-weaker, number_of, number_below}
use Rattle.blast_value.proofs.Effects.{sum_is, difference_is, product_is}
use Rattle.blast_value.proofs.arithmetic.wrapped.Goals as goal

pub returns-in-Add-clause-number : goal.returns-in-Add-clause-number
returns-in-Add-clause-number g c =
    IfOk-weaker c.add.result _ _ (λ word known inputs admitted.
    rw c.in-Add.is (known inputs admitted ∙ sum_is _ _ _))
    c.add.ensures.number

pub returns-in-Sub-clause-number : goal.returns-in-Sub-clause-number
returns-in-Sub-clause-number g c =
    let n = length c.args.a.now in
    IfOk-weaker c.sub.result _ _ (λ word known inputs admitted.
    let value = g.C.State.value c.args.c.now inputs in
    let a = number_of value c.args.a.now in
    let b = number_of value c.args.b.now in
    let below_b : b < 2 ^ n = subst (λ k. b < 2 ^ k) c.requires.same_width (number_below value c.args.b.now) in
    rw c.in-Sub.is (known inputs admitted ∙ difference_is n a b (number_below value c.args.a.now) below_b))
    c.sub.ensures.number

pub returns-in-Mul-clause-number : goal.returns-in-Mul-clause-number
returns-in-Mul-clause-number g c =
    IfOk-weaker c.multiply.result _ _ (λ word known inputs admitted.
    rw c.in-Mul.is (known inputs admitted ∙ product_is _ _ _))
    c.multiply.ensures.number
