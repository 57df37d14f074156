use Rattle.cnf_build.proofs.Common.{◌≡◌, ◌+◌, ◌++◌, drop, clauses_from}
use Rattle.cnf_build.proofs.tseitin.clauses_from.Given as goal

-- the clauses so far and those of the definitions that are left are all
abbrev pub invariant-loop-definition : goal.invariant-loop-definition
invariant-loop-definition l =
    record {
      number : l.variable ≡ l.first + l.definition-index;
      rest : l.clauses ++ clauses_from l.variable (drop l.definition-index l.definitions) ≡ clauses_from l.first l.definitions;
    }
