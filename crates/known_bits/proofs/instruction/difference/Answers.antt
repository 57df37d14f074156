use Rattle.known_bits.proofs.Common.{[], IfOk-weaker, One}
use Rattle.known_bits.proofs.Loops.{difference_is}
use Rattle.known_bits.proofs.instruction.difference.Goals as goal

pub returns : goal.returns
returns c =
    IfOk-weaker c.sub.result _ _ (λ bits is. difference_is One bits c.in_ok-a.a c.in_ok-b.b _ _ (is []) c.in_ok-a.ensures.bits c.in_ok-b.ensures.bits) c.sub.ensures.known
