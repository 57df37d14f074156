use Rattle.rule_typing.proofs.Common.{ℕ, ◌<◌, ◌≤◌, List, length, take, slice_index, SolvesBehind}
use Rattle.rule_typing.proofs.enumeration.next_typing.Given as goal

abbrev pub invariant-loop-place : goal.invariant-loop-place
invariant-loop-place l = (p : ℕ) (other : List ℕ) → l.place ≤ p → p < length l.typing → ¬ SolvesBehind l.rule l.sets (take p l.typing) (slice_index l.typing p) other
