use Rattle.cnf_build.proofs.Common.{◌≡◌, NamesFirst}
use Rattle.cnf_build.proofs.naming.Naming.of.Given as goal

abbrev pub invariant-loop-place : goal.invariant-loop-place
invariant-loop-place l =
    record {
      inputs : l.naming.inputs ≡ l.inputs;
      named : NamesFirst l.gates l.needed l.place l.naming;
    }
