use Rattle.rule_typing.proofs.Common.{operands_of, LiteralsFit}
use Rattle.rule_typing.proofs.Among.{SoFar}
use Rattle.rule_typing.proofs.fits.statements_fit.Given as goal

abbrev pub invariant-loop-statement : goal.invariant-loop-statement
invariant-loop-statement l = SoFar (λ s. LiteralsFit (operands_of s.op) l.class l.bits) l.statements l.statement-index
