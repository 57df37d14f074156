use Rattle.rule_typing.proofs.Common.{◌≡◌, ℕ, Some, Operand, operand_naming}
use Rattle.rule_typing.proofs.Among.{SoFar}
use Rattle.rule_typing.proofs.names.other_by_operands.Given as goal

abbrev pub invariant-loop-operand : goal.invariant-loop-operand
invariant-loop-operand l = SoFar (λ x. (d : ℕ) → (λ (o : Operand) (d : ℕ). operand_naming o ≡ Some (l.name, d)) x d → l.class ≡ d) l.operands l.operand-index
