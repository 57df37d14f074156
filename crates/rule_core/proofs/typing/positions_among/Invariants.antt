use Rattle.rule_core.proofs.Common.{◌≡◌, ◌*◌, ◌≤◌, length, take, flat_map, classes_of_term}
use Rattle.rule_core.proofs.typing.positions_among.Given as goal

abbrev pub invariant-loop-term : goal.invariant-loop-term
invariant-loop-term l = record {
  count : l.count ≡ length (flat_map classes_of_term (take l.term-index l.terms));
  few : l.count ≤ 2 * l.term-index;
}
