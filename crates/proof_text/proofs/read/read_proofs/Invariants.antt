use Rattle.proof_text.proofs.Common.{length}
use Rattle.proof_text.proofs.TextReadings.{TextSoFar}
use Rattle.proof_text.proofs.read.read_proofs.Given as goal

abbrev pub invariant-loop-rest : goal.invariant-loop-rest
invariant-loop-rest l = TextSoFar l.bytes l.rest l.proofs.items

abbrev pub decreases-loop-rest : goal.decreases-loop-rest
decreases-loop-rest l = length l.rest
