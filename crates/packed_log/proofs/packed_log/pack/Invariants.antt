use Rattle.packed_log.proofs.Common.{take}
use Rattle.packed_log.proofs.Steps.{AreSteps}
use Rattle.packed_log.proofs.packed_log.pack.Given as goal

abbrev pub invariant-loop-step : goal.invariant-loop-step
invariant-loop-step l = AreSteps l.clauses l.hints.items (take l.step-index l.steps)
