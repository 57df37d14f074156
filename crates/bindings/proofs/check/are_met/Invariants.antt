-- the nodes so far are met
use Rattle.bindings.proofs.Common.{IsMet, SoFar, known_by}
use Rattle.bindings.proofs.check.are_met.Given as goal

abbrev pub invariant-loop-formula : goal.invariant-loop-formula
invariant-loop-formula l = SoFar (IsMet l.facts (known_by l.known l.binding.block l.binding.place) l.rule l.binding) l.formula-items l.formula-index
