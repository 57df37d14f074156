use Rattle.rule_core.proofs.Common.{◌≡◌, ◌+◌, length, take, flat_map, classes_of_statement}
use Rattle.rule_core.proofs.typing.class_among.Given as goal

abbrev pub invariant-loop-statement : goal.invariant-loop-statement
invariant-loop-statement l = l.position ≡ length (flat_map classes_of_statement (take l.statement-index l.statements)) + l.rest
