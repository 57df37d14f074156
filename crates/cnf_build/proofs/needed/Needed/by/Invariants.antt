use Rattle.cnf_build.proofs.MarksLemmas.{MarkedFrom}
use Rattle.cnf_build.proofs.needed.Needed.by.Given as goal

abbrev pub invariant-loop-k : goal.invariant-loop-k
invariant-loop-k l = MarkedFrom l.gates l.fn.root l.k l.needed
