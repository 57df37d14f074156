use Rattle.rule_typing.proofs.Common.{◌≡◌, ℕ, Some, StatementFixes}
use Rattle.rule_typing.proofs.Among.{SoFar}
use Rattle.rule_typing.proofs.fixed.fixed_by_statements.Given as goal

abbrev pub invariant-loop-statement : goal.invariant-loop-statement
invariant-loop-statement l = SoFar (λ s. (N : ℕ) → StatementFixes l.class N s → l.but ≡ Some N) l.statements l.statement-index
