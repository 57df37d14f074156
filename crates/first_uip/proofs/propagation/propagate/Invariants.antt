use Rattle.first_uip.proofs.Common.{◌≡◌, ◌-◌, length, Grows, clauses_in, CoversBelow, IsWatchingUpTo}
use Rattle.first_uip.proofs.propagation.propagate.Given as goal

abbrev pub invariant-loop-head : goal.invariant-loop-head
invariant-loop-head l =
    record {
      same_variables : length l.trail.values.items ≡ length l.initial.trail.values.items;
      same_clauses : clauses_in l.watches.arena ≡ clauses_in l.initial.watches.arena;
      covers : CoversBelow (length l.initial.trail.values.items) l.watches;
      grows : Grows (clauses_in l.initial.watches.arena) l.initial.trail.entries.items l.trail.entries.items;
      watching : IsWatchingUpTo (clauses_in l.initial.watches.arena) l.watches l.trail.entries.items l.head;
    }

abbrev pub decreases-loop-head : goal.decreases-loop-head
decreases-loop-head l = length l.trail.values.items - l.head
