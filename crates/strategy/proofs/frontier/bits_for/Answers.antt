use Rattle.strategy.proofs.Common.{inl, inr, fails}
use Rattle.strategy.proofs.frontier.bits_for.Goals as goal

pub returns-then-not-ask_bits-clause-bits : goal.returns-then-not-ask_bits-clause-bits
returns-then-not-ask_bits-clause-bits c = inr (fails c.ask_bits.result c.ask_bits.ensures c.if-not-ask_bits.true, c.none.ensures.none)

pub returns-clause-bits : goal.returns-clause-bits
returns-clause-bits c = inl c.in_ok-bits.ensures.bits
