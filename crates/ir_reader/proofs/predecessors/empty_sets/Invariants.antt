use Rattle.ir_reader.proofs.Common.{◌≡◌, ℕ, length, Holds}
use Rattle.ir_reader.proofs.predecessors.empty_sets.Given as goal

abbrev pub invariant-loop-block : goal.invariant-loop-block
invariant-loop-block l = record { count : length l.sets.items ≡ l._block; empty : (c b : ℕ) → ¬ Holds l.sets.items c b }
