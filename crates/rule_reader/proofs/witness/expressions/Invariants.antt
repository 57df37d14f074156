-- the expressions so far are resolved, with the last node of each
use Rattle.rule_reader.proofs.Common.{◌≡◌, take, TermsMean, last_nodes}
use Rattle.rule_reader.proofs.witness.expressions.Given as goal

abbrev pub invariant-loop-written : goal.invariant-loop-written
invariant-loop-written l =
    record {
      terms : TermsMean l.rule l.names (take l.written-index l.initial.written) l.terms;
      places : l.places ≡ last_nodes 0 (take l.written-index l.initial.written);
    }
