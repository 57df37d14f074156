use Rattle.packed_log.proofs.Numbers.{NumberSoFar}
use Rattle.packed_log.proofs.number.push_number.Given as goal

abbrev pub invariant-loop-rest : goal.invariant-loop-rest
invariant-loop-rest l = NumberSoFar l.number l.rest l.fn.bytes.items l.bytes.items

abbrev pub decreases-loop-rest : goal.decreases-loop-rest
decreases-loop-rest l = l.rest
