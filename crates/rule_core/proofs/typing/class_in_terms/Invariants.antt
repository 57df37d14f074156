use Rattle.rule_core.proofs.Common.{◌≡◌, ◌+◌, length, take, flat_map, classes_of_term}
use Rattle.rule_core.proofs.typing.class_in_terms.Given as goal

abbrev pub invariant-loop-term : goal.invariant-loop-term
invariant-loop-term l = l.position ≡ length (flat_map classes_of_term (take l.term-index l.terms)) + l.rest
