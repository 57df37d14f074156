use Rattle.first_uip.proofs.Common.{◌≤◌, length, NoneDecided}
use Rattle.first_uip.proofs.analysis.last_decision.Given as goal

abbrev pub invariant-loop-place : goal.invariant-loop-place
invariant-loop-place l =
    record {
      within : l.place ≤ length l.trail.entries.items;
      none : NoneDecided l.trail.entries.items l.place (length l.trail.entries.items);
    }

abbrev pub decreases-loop-place : goal.decreases-loop-place
decreases-loop-place l = l.place
