use Rattle.rule_typing.proofs.Common.{LineOf, term_pairs, term_naming}
use Rattle.rule_typing.proofs.Walks.{AreOne}
use Rattle.rule_typing.proofs.Among.{SoFar}
use Rattle.rule_typing.proofs.term_lines.split_by_terms.Given as goal

abbrev pub invariant-loop-term : goal.invariant-loop-term
invariant-loop-term l = SoFar (λ x. AreOne ((LineOf l.rule (term_pairs l.terms) term_naming) x)) l.terms l.term-index
