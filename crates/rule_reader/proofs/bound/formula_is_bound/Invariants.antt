-- the names of the nodes so far may be used
use Rattle.rule_reader.proofs.Common.{take, Each, FormulaIsBound}
use Rattle.rule_reader.proofs.bound.formula_is_bound.Given as goal

abbrev pub invariant-loop-node : goal.invariant-loop-node
invariant-loop-node l = Each (FormulaIsBound l.rule) (take l.node-index l.formula)
