-- all that the statements so far name may be used there
use Rattle.rule_reader.proofs.Common.{StatementUnbound, half_of, place_in}
use Rattle.rule_reader.proofs.Firsts.{NoneBefore}
use Rattle.rule_reader.proofs.bound.unbound_statement.Given as goal

abbrev pub invariant-loop-place : goal.invariant-loop-place
invariant-loop-place l = NoneBefore (half_of l.half l.rule) (StatementUnbound l.rule (place_in l.half)) l.place
