use Rattle.depth_first.proofs.Common.{◌≡◌, ◌-◌, length, all_clauses, Grows, IsPropagatedUpTo}
use Rattle.depth_first.proofs.propagation.propagate.Given as goal

abbrev pub invariant-loop-head : goal.invariant-loop-head
invariant-loop-head l =
    record {
      grows : Grows (all_clauses l.cnf) l.initial.trail.entries.items l.trail.entries.items;
      same_variables : length l.trail.values.items ≡ length l.initial.trail.values.items;
      up_to_head : IsPropagatedUpTo (all_clauses l.cnf) l.trail.entries.items l.head;
    }

abbrev pub decreases-loop-head : goal.decreases-loop-head
decreases-loop-head l = length l.trail.values.items - l.head
