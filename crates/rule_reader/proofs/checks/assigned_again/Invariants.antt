-- none of the statements so far assigns what an earlier one does
use Rattle.rule_reader.proofs.Common.{AssignsAgain}
use Rattle.rule_reader.proofs.Firsts.{NoneBefore}
use Rattle.rule_reader.proofs.checks.assigned_again.Given as goal

abbrev pub invariant-loop-place : goal.invariant-loop-place
invariant-loop-place l = NoneBefore l.statements (AssignsAgain l.statements) l.place
