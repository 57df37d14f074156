use Rattle.known_bits.proofs.Common.{sym}
use Rattle.known_bits.proofs.Loops.{top_some}
use Rattle.known_bits.proofs.bits.top.Goals as goal

pub returns-in-Some : goal.returns-in-Some
returns-in-Some c = sym (top_some c.args.bits.now c.in-Some.bit.now (sym c.in-Some.ensures.value))
