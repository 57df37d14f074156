use Rattle.first_uip.proofs.Common.{ℕ, ◌≤◌, ◌<◌, literals, IsSet}
use Rattle.first_uip.proofs.policy.open_variable.Given as goal

abbrev pub invariant-loop-variable : goal.invariant-loop-variable
invariant-loop-variable l = (n : ℕ) → 1 ≤ n → n < l.variable → IsSet (literals l.trail.entries.items) n
