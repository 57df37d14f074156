use Rattle.blast_value.proofs.Common.{◌∙◌, IfOk-weaker}
use Rattle.blast_value.proofs.Effects.{quotients, remainders}
use Rattle.blast_value.proofs.division.quotient_and_remainder.Goals as goal

pub returns-then-signed-clause-quotient : goal.returns-then-signed-clause-quotient
returns-then-signed-clause-quotient g c =
    IfOk-weaker c.divide_signed.result _ _ (λ divided known inputs admitted some.
    rw c.if-signed.true (known inputs admitted some ∙ quotients _ _ _))
    c.divide_signed.ensures.quotient

pub returns-then-signed-clause-remainder : goal.returns-then-signed-clause-remainder
returns-then-signed-clause-remainder g c =
    IfOk-weaker c.divide_signed.result _ _ (λ divided known inputs admitted some.
    rw c.if-signed.true (known inputs admitted some ∙ remainders _ _ _))
    c.divide_signed.ensures.remainder
