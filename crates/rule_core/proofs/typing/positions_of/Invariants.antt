use Rattle.rule_core.proofs.Common.{◌≡◌, ◌*◌, ◌≤◌, length, take, flat_map, classes_of_statement}
use Rattle.rule_core.proofs.typing.positions_of.Given as goal

abbrev pub invariant-loop-statement : goal.invariant-loop-statement
invariant-loop-statement l = record {
  count : l.count ≡ length (flat_map classes_of_statement (take l.statement-index l.statements));
  few : l.count ≤ 4 * l.statement-index;
}
