use Rattle.rule_typing.proofs.Common.{Statement, classes_of_statement, numbered_statement}
use Rattle.rule_typing.proofs.NumberedLists.{AreNumbered}
use Rattle.rule_typing.proofs.relabelling.number_statements.Given as goal

abbrev pub invariant-loop-place : goal.invariant-loop-place
invariant-loop-place l = AreNumbered Statement classes_of_statement numbered_statement l.first l.initial.statements l.statements l.place l.next
