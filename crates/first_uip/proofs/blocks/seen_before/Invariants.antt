use Rattle.first_uip.proofs.Common.{◌≤◌, NoneSeen}
use Rattle.first_uip.proofs.blocks.seen_before.Given as goal

abbrev pub invariant-loop-place : goal.invariant-loop-place
invariant-loop-place l =
    record {
      within : l.place ≤ l.end;
      none : NoneSeen l.trail.entries.items l.roles l.place l.end;
    }

abbrev pub decreases-loop-place : goal.decreases-loop-place
decreases-loop-place l = l.place
