-- the names of the nodes so far may be used
use Rattle.rule_reader.proofs.Common.{take, Each, NodeIsBound}
use Rattle.rule_reader.proofs.bound.term_is_bound.Given as goal

abbrev pub invariant-loop-node : goal.invariant-loop-node
invariant-loop-node l = Each (NodeIsBound l.rule l.place) (take l.node-index l.term)
