use Rattle.depth_first.proofs.Common.{◌≡◌, ◌+◌, length, IsIndexOf, IsState}
use Rattle.depth_first.proofs.Weight.{weight}
use Rattle.depth_first.proofs.SearchSteps.{IsBounded}
use Rattle.depth_first.proofs.depth_first.decide_and_flip.Given as goal

abbrev pub invariant-loop-log : goal.invariant-loop-log
invariant-loop-log l =
    record {
      index : IsIndexOf l.cnf l.occurrences;
      variables : length l.trail.values.items ≡ l.cnf.count + 1;
      state : IsState l.cnf l.log.items l.trail.entries.items l.head;
      bounded : IsBounded l.cnf l.limit l.log.items l.trail.entries.items;
    }

abbrev pub decreases-loop-log : goal.decreases-loop-log
decreases-loop-log l = weight (length l.trail.values.items) l.trail.entries.items
