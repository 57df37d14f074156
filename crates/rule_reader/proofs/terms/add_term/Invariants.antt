-- the nodes so far are appended
use Rattle.rule_reader.proofs.Common.{take}
use Rattle.rule_reader.proofs.Nodes.{Added}
use Rattle.rule_reader.proofs.terms.add_term.Given as goal

abbrev pub invariant-loop-written : goal.invariant-loop-written
invariant-loop-written l = Added l.rule l.names l.initial.terms (take l.written-index l.initial.written) l.terms
