-- the values so far are those of the first slots
use Rattle.matcher.proofs.Common.{◌≡◌, map, take, Some}
use Rattle.matcher.proofs.slots.filled.Given as goal

abbrev pub invariant-loop-slot : goal.invariant-loop-slot
invariant-loop-slot g l = map Some l.values ≡ take l.slot-index l.slots
