-- no statement so far names one
use Rattle.bindings.proofs.Common.{operands_of, OneNamesAmong, SoFar}
use Rattle.bindings.proofs.temporaries.name_temporary.Given as goal

abbrev pub invariant-loop-statement : goal.invariant-loop-statement
invariant-loop-statement l = SoFar (λ s. OneNamesAmong l.measuring (operands_of s.op) → ⊥) l.statements l.statement-index
