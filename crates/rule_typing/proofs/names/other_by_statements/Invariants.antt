use Rattle.rule_typing.proofs.Common.{◌≡◌, ℕ, Statement, operands_of, operand_naming, NamingOf}
use Rattle.rule_typing.proofs.Among.{SoFar}
use Rattle.rule_typing.proofs.names.other_by_statements.Given as goal

abbrev pub invariant-loop-statement : goal.invariant-loop-statement
invariant-loop-statement l = SoFar (λ x. (d : ℕ) → (λ (s : Statement) (d : ℕ). NamingOf operand_naming (operands_of s.op) l.name d) x d → l.class ≡ d) l.statements l.statement-index
