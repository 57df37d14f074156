use Rattle.first_uip.proofs.Common.{◌≡◌, ◌+◌, [], length, take, all_clauses, Grows, CoversBelow, IsWatchingUpTo}
use Rattle.first_uip.proofs.start.add_clauses.Given as goal

abbrev pub invariant-loop-number : goal.invariant-loop-number
invariant-loop-number l =
    record {
      same_variables : length l.trail.values.items ≡ length l.initial.trail.values.items;
      covers : CoversBelow (l.cnf.count + 1) l.watches;
      grown : Grows (all_clauses l.cnf) [] l.trail.entries.items;
      watching : IsWatchingUpTo (take l.number (all_clauses l.cnf)) l.watches l.trail.entries.items 0;
    }
