use Rattle.blast_value.proofs.Common.{◌∙◌, IfOk-weaker}
use Rattle.blast_value.proofs.Effects.{plain_equal, plain_less, plain_greater, plain_less_signed, plain_greater_signed}
use Rattle.blast_value.proofs.comparison.without_negation.Goals as goal

pub returns-in-Eq-clause-value : goal.returns-in-Eq-clause-value
returns-in-Eq-clause-value g c =
    IfOk-weaker c.equal.result _ _ (λ made known inputs admitted.
    known inputs admitted ∙ plain_equal c.args.pred _ _ _ c.in-Eq.is)
    c.equal.ensures.value

pub returns-in-Ult-clause-value : goal.returns-in-Ult-clause-value
returns-in-Ult-clause-value g c =
    IfOk-weaker c.less_unsigned.result _ _ (λ made known inputs admitted.
    known inputs admitted ∙ plain_less c.args.pred _ _ _ c.in-Ult.is)
    c.less_unsigned.ensures.value

pub returns-in-Ugt-clause-value : goal.returns-in-Ugt-clause-value
returns-in-Ugt-clause-value g c =
    IfOk-weaker c.less_unsigned-in-Ugt.result _ _ (λ made known inputs admitted.
    known inputs admitted ∙ plain_greater c.args.pred _ _ _ c.in-Ugt.is)
    c.less_unsigned-in-Ugt.ensures.value

pub returns-in-Slt-clause-value : goal.returns-in-Slt-clause-value
returns-in-Slt-clause-value g c =
    IfOk-weaker c.less_signed.result _ _ (λ made known inputs admitted.
    known inputs admitted ∙ plain_less_signed c.args.pred _ _ _ c.in-Slt.is)
    c.less_signed.ensures.value

pub returns-in-Sgt-clause-value : goal.returns-in-Sgt-clause-value
returns-in-Sgt-clause-value g c =
    IfOk-weaker c.less_signed-in-Sgt.result _ _ (λ made known inputs admitted.
    (rw c.requires.same_width at (known inputs admitted)) ∙ plain_greater_signed c.args.pred _ _ _ c.in-Sgt.is)
    c.less_signed-in-Sgt.ensures.value
