use Rattle.first_uip.proofs.Common.{◌≡◌, replicate, []}
use Rattle.first_uip.proofs.watches.no_watchers.Given as goal

abbrev pub invariant-loop-i : goal.invariant-loop-i
invariant-loop-i l = l.lists.items ≡ replicate l._i []
