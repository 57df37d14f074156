use Rattle.blast_value.proofs.Common.{ap, ◌∙◌, IfOk-weaker, bit}
use Rattle.blast_value.proofs.Digits.{bit-xor}
use Rattle.blast_value.proofs.bitwise.gate.Goals as goal

pub returns-in-Xor-clause-value : goal.returns-in-Xor-clause-value
returns-in-Xor-clause-value g c =
    IfOk-weaker c.xor.result _ _ (λ made known inputs admitted.
    rw c.in-Xor.is (ap bit (known inputs admitted) ∙ bit-xor _ _))
    c.xor.ensures.value
