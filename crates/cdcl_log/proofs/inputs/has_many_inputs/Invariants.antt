use Rattle.cdcl_log.proofs.Common.{◌≡◌, ℕ, ◌+◌, ◌<◌, ◌≤◌, false, length, drop, get_or, distinct_count, is_among}
use Rattle.cdcl_log.proofs.inputs.has_many_inputs.Given as goal

abbrev pub invariant-loop-place : goal.invariant-loop-place
invariant-loop-place l =
    record {
      size : length l.named.items ≡ l.cnf.count + 1;
      within : l.place ≤ length l.inputs;
      so_many : l.count ≡ distinct_count (drop l.place l.inputs);
      at_most : l.count + l.place ≤ length l.inputs;
      marked : (v : ℕ) → v < length l.named.items → get_or l.named.items v false ≡ is_among (drop l.place l.inputs) v;
    }

abbrev pub decreases-loop-place : goal.decreases-loop-place
decreases-loop-place l = l.place
