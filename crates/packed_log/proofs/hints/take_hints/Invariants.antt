use Rattle.packed_log.proofs.Taken.{HintsTaken}
use Rattle.packed_log.proofs.hints.take_hints.Given as goal

abbrev pub invariant-loop-place : goal.invariant-loop-place
invariant-loop-place l = HintsTaken l._place l.before l.fn.rest.now l.rest.now l.hints
