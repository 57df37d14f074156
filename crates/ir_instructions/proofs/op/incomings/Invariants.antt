use Rattle.ir_instructions.proofs.Common.{◌≡◌, length, seen, incomings_at}
use Rattle.ir_instructions.proofs.op.incomings.Given as goal

abbrev pub invariant-incomings : goal.invariant-incomings
invariant-incomings l = incomings_at l.width l.incomings (seen l.tokens.now) ≡ incomings_at l.width l.fn.front (seen l.fn.tokens.now)

abbrev pub decreases-incomings : goal.decreases-incomings
decreases-incomings l = length (seen l.tokens.now)
