use Rattle.ir_resolve.proofs.Common.{map, IsFirst, MisnumbersHere, seen_written}
use Rattle.ir_resolve.proofs.Firsts.{Before}
use Rattle.ir_resolve.proofs.names.series.misnumbered.Given as goal

abbrev pub invariant-loop-place : goal.invariant-loop-place
invariant-loop-place l = IsFirst (Before (MisnumbersHere (map seen_written l.definitions)) l.place) l.found
