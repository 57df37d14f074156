use Rattle.rule_typing.proofs.Common.{ℕ, ◌<◌, Has}
use Rattle.rule_typing.proofs.widths.Widths.above.Given as goal

abbrev pub invariant-loop-bits : goal.invariant-loop-bits
invariant-loop-bits l = (N : ℕ) → N < l.bits → l.bound < N → ¬ Has l.self N
