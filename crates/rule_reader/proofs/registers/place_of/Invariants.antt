-- the name does not stand at a place so far
use Rattle.rule_reader.proofs.Common.{◌≡◌, ℕ, ◌<◌, Some, slice_get}
use Rattle.rule_reader.proofs.registers.place_of.Given as goal

abbrev pub invariant-loop-place : goal.invariant-loop-place
invariant-loop-place l = (k : ℕ) → k < l.place → ¬ (slice_get l.names k ≡ Some l.name)
