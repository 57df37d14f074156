use Rattle.depth_first.proofs.Common.{◌≡◌, replicate, []}
use Rattle.depth_first.proofs.occurrences.no_numbers.Given as goal

abbrev pub invariant-loop-i : goal.invariant-loop-i
invariant-loop-i l = l.lists.items ≡ replicate l._i []
