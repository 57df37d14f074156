use Rattle.rule_typing.proofs.Common.{◌≡◌, ℕ, Some, FixesWidth}
use Rattle.rule_typing.proofs.Among.{SoFar}
use Rattle.rule_typing.proofs.fixed.fixed_by_operands.Given as goal

abbrev pub invariant-loop-operand : goal.invariant-loop-operand
invariant-loop-operand l = SoFar (λ o. (N : ℕ) → FixesWidth l.class N o → l.but ≡ Some N) l.operands l.operand-index
