use Rattle.depth_first.proofs.Common.{ℕ, ◌≤◌, ◌<◌, literals, IsSet}
use Rattle.depth_first.proofs.depth_first.open_variable.Given as goal

abbrev pub invariant-loop-variable : goal.invariant-loop-variable
invariant-loop-variable l = (n : ℕ) → 1 ≤ n → n < l.variable → IsSet (literals l.trail.entries.items) n
