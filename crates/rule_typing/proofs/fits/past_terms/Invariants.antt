use Rattle.rule_typing.proofs.Common.{take, flat_map, classes_of_term, IsPast}
use Rattle.rule_typing.proofs.fits.past_terms.Given as goal

abbrev pub invariant-loop-term : goal.invariant-loop-term
invariant-loop-term l = IsPast (flat_map classes_of_term (take l.term-index l.terms)) l.past
