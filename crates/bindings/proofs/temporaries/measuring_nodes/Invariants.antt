-- the set has those of the nodes so far
use Rattle.bindings.proofs.Common.{◌<◌, HasExactly, MeasuresTemporary}
use Rattle.bindings.proofs.temporaries.measuring_nodes.Given as goal

abbrev pub invariant-loop-n : goal.invariant-loop-n
invariant-loop-n l = HasExactly l.measuring (λ n. (n < l.n) × MeasuresTemporary l.rule.terms n)
