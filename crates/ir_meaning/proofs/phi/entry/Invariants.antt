use Rattle.ir_meaning.proofs.Common.{drop, Contains, Operand}
use Rattle.ir_meaning.proofs.phi.entry.Given as goal

abbrev pub invariant-loop-read : goal.invariant-loop-read
invariant-loop-read l = (a : Operand) × Contains (drop l.read-index l.entries) (a, l.from)
