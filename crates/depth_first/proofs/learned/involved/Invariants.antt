use Rattle.depth_first.proofs.Common.{◌≡◌, ◌+◌, ◌≤◌, length, clauses_with, IsInvolved}
use Rattle.depth_first.proofs.learned.involved.Given as goal

abbrev pub invariant-loop-place : goal.invariant-loop-place
invariant-loop-place l =
    record {
      size : length l.marked.items ≡ l.cnf.count + 1;
      within : l.place ≤ length l.trail.entries.items;
      involved : IsInvolved (clauses_with l.cnf l.log) l.trail.entries.items l.conflict l.place l.marked.items;
    }

abbrev pub decreases-loop-place : goal.decreases-loop-place
decreases-loop-place l = l.place
