use Rattle.rule_typing.proofs.Common.{take, flat_map, classes_of_statement, IsPast}
use Rattle.rule_typing.proofs.fits.past_statements.Given as goal

abbrev pub invariant-loop-statement : goal.invariant-loop-statement
invariant-loop-statement l = IsPast (flat_map classes_of_statement (take l.statement-index l.statements)) l.past
