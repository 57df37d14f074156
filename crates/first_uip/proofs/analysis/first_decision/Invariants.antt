use Rattle.first_uip.proofs.Common.{NoneDecided}
use Rattle.first_uip.proofs.analysis.first_decision.Given as goal

abbrev pub invariant-loop-place : goal.invariant-loop-place
invariant-loop-place l = NoneDecided l.trail.entries.items 0 l.place
