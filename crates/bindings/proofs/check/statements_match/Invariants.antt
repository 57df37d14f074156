-- the statements so far match
use Rattle.bindings.proofs.Common.{◌≡◌, ℕ, ◌<◌, Some, slice_get, Statement, StatementMatches}
use Rattle.bindings.proofs.check.statements_match.Given as goal

abbrev pub invariant-loop-j : goal.invariant-loop-j
invariant-loop-j l = (k : ℕ) (s : Statement) → k < l.j → slice_get l.rule.source k ≡ Some s → StatementMatches l.f l.rule l.binding k s
