use Rattle.precond.proofs.Numbered.{FirstHaveNumbers}
use Rattle.precond.proofs.precondition.have_numbers.Given as goal

abbrev pub invariant-loop-value : goal.invariant-loop-value
invariant-loop-value l = FirstHaveNumbers l.values l.value-index
