-- none of the nodes so far does
use Rattle.bindings.proofs.Common.{Formula, Name, SaysOf, SoFar}
use Rattle.bindings.proofs.asking.asks_bits.Given as goal

abbrev pub invariant-loop-formula : goal.invariant-loop-formula
invariant-loop-formula l = SoFar (λ (formula : Formula). (r : Name) → ¬ SaysOf r formula) l.formula-items l.formula-index
