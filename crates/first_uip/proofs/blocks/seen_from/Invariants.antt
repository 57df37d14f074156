use Rattle.first_uip.proofs.Common.{◌-◌, ◌≤◌, NoneSeen}
use Rattle.first_uip.proofs.blocks.seen_from.Given as goal

abbrev pub invariant-loop-place : goal.invariant-loop-place
invariant-loop-place l =
    record {
      first : l.start ≤ l.place;
      none : NoneSeen l.trail.entries.items l.roles l.start l.place;
    }

abbrev pub decreases-loop-place : goal.decreases-loop-place
decreases-loop-place l = l.end - l.place
