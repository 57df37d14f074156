use Rattle.first_uip.proofs.Common.{◌≡◌, ◌+◌, ◌-◌, length, take, literals, Grows, clauses_in, watched_in, CoversBelow, IsWatchingUpTo, numbers_of}
use Rattle.first_uip.proofs.Guards.{EachGuardedBut}
use Rattle.first_uip.proofs.propagation.propagate_entry.Given as goal

abbrev pub invariant-loop-place : goal.invariant-loop-place
invariant-loop-place l =
    record {
      same_variables : length l.trail.values.items ≡ length l.initial.trail.values.items;
      same_clauses : clauses_in l.watches.arena ≡ clauses_in l.initial.watches.arena;
      covers : CoversBelow (length l.initial.trail.values.items) l.watches;
      grows : Grows (clauses_in l.initial.watches.arena) l.initial.trail.entries.items l.trail.entries.items;
      watching : IsWatchingUpTo (clauses_in l.initial.watches.arena) l.watches l.trail.entries.items l.head;
      but :
          EachGuardedBut (clauses_in l.initial.watches.arena) (watched_in l.watches.arena) (numbers_of l.watches l.falsified) l.place
          (literals (take (l.head + 1) l.trail.entries.items)) (literals l.trail.entries.items);
    }

abbrev pub decreases-loop-place : goal.decreases-loop-place
decreases-loop-place l = length (numbers_of l.watches l.falsified) - l.place
