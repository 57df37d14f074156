use Rattle.rule_core.proofs.Common.{◌≡◌, ℕ, ◌<◌, ◌^◌, false, ◌==◌}
use Rattle.rule_core.proofs.term.exponent.Given as goal

abbrev pub invariant-loop-k : goal.invariant-loop-k
invariant-loop-k l = (j : ℕ) → j < l.k → (2 ^ j == l.number) ≡ false
