use Rattle.packed_log.proofs.Steps.{StepsTaken}
use Rattle.packed_log.proofs.packed_log.unpack.Given as goal

abbrev pub invariant-loop-clause : goal.invariant-loop-clause
invariant-loop-clause l = StepsTaken l.clauses l.clause-index l.initial.rest l.rest l.log
