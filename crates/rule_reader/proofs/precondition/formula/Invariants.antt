-- the nodes so far are resolved, and the nodes of their terms appended
use Rattle.rule_reader.proofs.Common.{take, target_terms, nodes_in, TermsMean}
use Rattle.rule_reader.proofs.Nodes.{FormulasMean}
use Rattle.rule_reader.proofs.Steps.{upto}
use Rattle.rule_reader.proofs.precondition.formula.Given as goal

abbrev pub invariant-loop-written : goal.invariant-loop-written
invariant-loop-written l =
    record {
      means : FormulasMean l.rule l.names (nodes_in (target_terms l.rule)) (take l.written-index l.initial.written) l.formula;
      terms : TermsMean l.rule l.names (upto l.rule l.names l.initial.written l.written-index) l.terms;
    }
