use Rattle.proof_text.proofs.Common.{length}
use Rattle.proof_text.proofs.StepReadings.{ClauseSoFar}
use Rattle.proof_text.proofs.clause.clause.Given as goal

abbrev pub invariant-loop-clause : goal.invariant-loop-clause
invariant-loop-clause l = ClauseSoFar l.fn.rest.now l.rest.now l.clause

abbrev pub decreases-loop-clause : goal.decreases-loop-clause
decreases-loop-clause l = length l.rest.now
