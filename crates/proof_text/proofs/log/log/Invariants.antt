use Rattle.proof_text.proofs.Common.{length}
use Rattle.proof_text.proofs.LogReadings.{LogSoFar}
use Rattle.proof_text.proofs.log.log.Given as goal

abbrev pub invariant-loop-alloc : goal.invariant-loop-alloc
invariant-loop-alloc l = LogSoFar l.count l.fn.rest.now l.rest.now l.log

abbrev pub decreases-loop-alloc : goal.decreases-loop-alloc
decreases-loop-alloc l = length l.rest.now
