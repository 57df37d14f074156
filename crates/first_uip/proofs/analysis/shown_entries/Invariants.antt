use Rattle.first_uip.proofs.Common.{◌≡◌, ◌-◌, ◌≤◌, length, take, shown_entries}
use Rattle.first_uip.proofs.analysis.shown_entries.Given as goal

abbrev pub invariant-loop-place : goal.invariant-loop-place
invariant-loop-place l =
    record {
      within : l.next ≤ length l.trail.entries.items;
      shown : l.shown.items ≡ shown_entries l.roles (take l.next l.trail.entries.items);
    }

abbrev pub decreases-loop-place : goal.decreases-loop-place
decreases-loop-place l = length l.trail.entries.items - l.next
