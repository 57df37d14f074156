use Rattle.rule_core.proofs.Common.{◌≡◌, take, of_constants, values_of}
use Rattle.rule_core.proofs.run.constant_values.Given as goal

abbrev pub invariant-loop-term : goal.invariant-loop-term
invariant-loop-term l = l.values.items ≡ values_of l.typing (of_constants l.constants) (take l.term-index l.rule.terms)
