use Rattle.rule_reader.proofs.Common.{arith, refl, FormulaIsBound}
use Rattle.rule_reader.proofs.Looking.{says, denies, is_yes, is_no}
use Rattle.rule_reader.proofs.Members.{each_more, not_each, each_all}
use Rattle.rule_reader.proofs.bound.formula_is_bound.Goals as goal

pub returns-then-not-formula_node_is_bound : goal.returns-then-not-formula_node_is_bound
returns-then-not-formula_node_is_bound c =
    is_no _ _ refl (not_each (FormulaIsBound c.args.rule.now) c.args.formula.now c.loop-node.node-index c.node-item.result (omega arith) c.node-item.is (denies _ _ c.formula_node_is_bound.ensures c.if-not-formula_node_is_bound.true))

pub loop-node-preserved : goal.loop-node-preserved
loop-node-preserved c =
    each_more (FormulaIsBound c.args.rule.now) c.args.formula.now c.loop-node.node-index c.node-item.result (omega arith) c.node-item.is c.loop-node.invariant (says _ _ c.formula_node_is_bound.ensures c.if-not-formula_node_is_bound.false)

pub returns : goal.returns
returns c = is_yes _ _ refl (each_all (FormulaIsBound c.args.rule.now) c.args.formula.now c.loop-node.node-index (omega arith) c.loop-node.invariant)
