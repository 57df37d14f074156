use Rattle.rule_typing.proofs.Common.{IsNameOf}
use Rattle.rule_typing.proofs.Among.{SoFar}
use Rattle.rule_typing.proofs.open_classes.reads_class.Given as goal

abbrev pub invariant-loop-operand : goal.invariant-loop-operand
invariant-loop-operand l = SoFar (λ o. IsNameOf l.class o → ⊥) l.operands l.operand-index
