use Rattle.rule_typing.proofs.Common.{Term, classes_of_term, numbered_term}
use Rattle.rule_typing.proofs.NumberedLists.{AreNumbered}
use Rattle.rule_typing.proofs.relabelling.number_terms.Given as goal

abbrev pub invariant-loop-place : goal.invariant-loop-place
invariant-loop-place l = AreNumbered Term classes_of_term numbered_term l.first l.initial.terms l.terms l.place l.next
