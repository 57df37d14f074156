use Rattle.first_uip.proofs.Common.{◌≡◌, ◌+◌, ◌≤◌, length, CoversBelow, IsSearching, IsNoted}
use Rattle.first_uip.proofs.Measure.{work_left}
use Rattle.first_uip.proofs.learning.decide_and_learn.Given as goal

abbrev pub invariant-loop-log : goal.invariant-loop-log
invariant-loop-log l =
    record {
      variables : length l.trail.values.items ≡ l.cnf.count + 1;
      covers : CoversBelow (l.cnf.count + 1) l.watches;
      levels : length l.levels ≡ l.cnf.count + 1;
      places : length l.places ≡ l.cnf.count + 1;
      noted : IsNoted l.places l.trail.entries.items l.noted;
      sizes : length l.policy.negated.items ≡ l.cnf.count + 1;
      within : length l.log.items ≤ l.limit;
      state : IsSearching l.cnf l.log.items l.watches l.trail.entries.items l.head;
    }

abbrev pub decreases-loop-log : goal.decreases-loop-log
decreases-loop-log l = work_left l.limit (length l.log.items) (l.cnf.count + 1) (length l.trail.entries.items)
