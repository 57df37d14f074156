use Rattle.proof_text.proofs.Common.{length}
use Rattle.proof_text.proofs.StepReadings.{ListSoFar}
use Rattle.proof_text.proofs.numbers.numbers.Given as goal

abbrev pub invariant-loop-numbers : goal.invariant-loop-numbers
invariant-loop-numbers l = ListSoFar l.fn.rest.now l.rest.now l.numbers

abbrev pub decreases-loop-numbers : goal.decreases-loop-numbers
decreases-loop-numbers l = length l.rest.now
