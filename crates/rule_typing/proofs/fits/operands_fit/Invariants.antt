use Rattle.rule_typing.proofs.Common.{FitsIn}
use Rattle.rule_typing.proofs.Among.{SoFar}
use Rattle.rule_typing.proofs.fits.operands_fit.Given as goal

abbrev pub invariant-loop-operand : goal.invariant-loop-operand
invariant-loop-operand l = SoFar (FitsIn l.class l.bits) l.operands l.operand-index
