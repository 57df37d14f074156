use Rattle.places.proofs.Common.{◌<◌, length, All, IsPermutation, IsNumbered, IsRising, rank_at}
use Rattle.places.proofs.heap.rise.Given as goal

abbrev pub invariant-loop-at : goal.invariant-loop-at
invariant-loop-at l =
    record {
      numbered : All (IsNumbered l.orders) l.heap;
      within : l.at < length l.heap;
      rising : IsRising (rank_at l.orders l.heap) (length l.heap) l.at;
      same : IsPermutation l.initial.heap l.heap;
    }

abbrev pub decreases-loop-at : goal.decreases-loop-at
decreases-loop-at l = l.at
