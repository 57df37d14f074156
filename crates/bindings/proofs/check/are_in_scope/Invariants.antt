-- the registers so far are in scope
use Rattle.bindings.proofs.Common.{IsBoundInScope, SoFar}
use Rattle.bindings.proofs.check.are_in_scope.Given as goal

abbrev pub invariant-loop-register : goal.invariant-loop-register
invariant-loop-register l = SoFar (IsBoundInScope l.across l.binding) l.register-items l.register-index
