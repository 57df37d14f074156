use Rattle.proof_text.proofs.Common.{length}
use Rattle.proof_text.proofs.NumberReadings.{SoFar}
use Rattle.proof_text.proofs.number.number.Given as goal

abbrev pub invariant-loop-rest : goal.invariant-loop-rest
invariant-loop-rest l = SoFar l.form.least l.form.most l.value l.fn.rest.now l.rest.now

abbrev pub decreases-loop-rest : goal.decreases-loop-rest
decreases-loop-rest l = length l.rest.now
