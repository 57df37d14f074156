use Rattle.places.proofs.Common.{◌-◌, ◌≤◌, length, All, IsPermutation, IsNumbered, IsSinking, rank_at}
use Rattle.places.proofs.heap.sink.Given as goal

abbrev pub invariant-loop-below : goal.invariant-loop-below
invariant-loop-below l =
    record {
      numbered : All (IsNumbered l.orders) l.heap;
      within : l.at ≤ length l.heap;
      sinking : IsSinking (rank_at l.orders l.heap) (length l.heap) l.at;
      same : IsPermutation l.initial.heap l.heap;
    }

abbrev pub decreases-loop-below : goal.decreases-loop-below
decreases-loop-below l = length l.heap - l.at
