use Rattle.rule_typing.proofs.Common.{TermFits}
use Rattle.rule_typing.proofs.Among.{SoFar}
use Rattle.rule_typing.proofs.fits.terms_fit.Given as goal

abbrev pub invariant-loop-term : goal.invariant-loop-term
invariant-loop-term l = SoFar (TermFits l.class l.bits) l.terms l.term-index
