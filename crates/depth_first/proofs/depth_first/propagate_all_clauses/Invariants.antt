use Rattle.depth_first.proofs.Common.{◌≡◌, ℕ, ◌<◌, length, Some, slice_get}
use Rattle.depth_first.proofs.depth_first.propagate_all_clauses.Given as goal

abbrev pub invariant-loop-number : goal.invariant-loop-number
invariant-loop-number l =
    record {
      so_many : length l.numbers.items ≡ l.number;
      each : (k : ℕ) → k < l.number → slice_get l.numbers.items k ≡ Some k;
    }
