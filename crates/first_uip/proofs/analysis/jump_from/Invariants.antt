use Rattle.first_uip.proofs.Common.{◌≤◌, DecidedAt, NoneDecided, NoneKept}
use Rattle.first_uip.proofs.analysis.jump_from.Given as goal

abbrev pub invariant-loop-place : goal.invariant-loop-place
invariant-loop-place l =
    record {
      within : l.place ≤ l.earliest;
      before : l.earliest ≤ l.start;
      decided : DecidedAt l.trail.entries.items l.earliest;
      none_kept : NoneKept l.trail.entries.items l.roles l.place l.start;
      none_decided : NoneDecided l.trail.entries.items l.place l.earliest;
    }

abbrev pub decreases-loop-place : goal.decreases-loop-place
decreases-loop-place l = l.place
