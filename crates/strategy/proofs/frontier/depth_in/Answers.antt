use Rattle.strategy.proofs.Common.{arith, fails}
use Rattle.strategy.proofs.frontier.depth_in.Goals as goal

pub returns-then-asks_bits-clause-bits : goal.returns-then-asks_bits-clause-bits
returns-then-asks_bits-clause-bits c name asks = omega (arith, c.len-count.ensures)

pub returns-clause-bits : goal.returns-clause-bits
returns-clause-bits c name asks = absurd (fails c.asks_bits.result c.asks_bits.ensures c.if-asks_bits.false (name, asks))
