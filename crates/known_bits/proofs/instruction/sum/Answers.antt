use Rattle.known_bits.proofs.Common.{[], IfOk-weaker, Zero}
use Rattle.known_bits.proofs.Loops.{sum_is}
use Rattle.known_bits.proofs.instruction.sum.Goals as goal

pub returns : goal.returns
returns c =
    IfOk-weaker c.add.result _ _ (λ bits is. sum_is Zero bits c.in_ok-a.a c.in_ok-b.b _ _ (is []) c.in_ok-a.ensures.bits c.in_ok-b.ensures.bits) c.add.ensures.known
