-- the inputs and constants among the operands of the statements so far
use Rattle.rule_reader.proofs.Common.{take, arguments_among, AreNamesAmong}
use Rattle.rule_reader.proofs.names.names_of.Given as goal

abbrev pub invariant-loop-statement : goal.invariant-loop-statement
invariant-loop-statement l = AreNamesAmong l.source (arguments_among (take l.statement-index l.source)) l.names
