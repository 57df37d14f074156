use Rattle.rule_typing.proofs.Common.{LineOf, operand_pairs, operand_naming}
use Rattle.rule_typing.proofs.Walks.{AreOne}
use Rattle.rule_typing.proofs.Among.{SoFar}
use Rattle.rule_typing.proofs.operand_lines.split_by_operands.Given as goal

abbrev pub invariant-loop-operand : goal.invariant-loop-operand
invariant-loop-operand l = SoFar (λ x. AreOne ((LineOf l.rule (operand_pairs l.rule) operand_naming) x)) l.operands l.operand-index
