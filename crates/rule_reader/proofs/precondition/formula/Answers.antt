use Rattle.rule_reader.proofs.Common.{arith, subst, take_all, target_terms, nodes_in}
use Rattle.rule_reader.proofs.Nodes.{formula_more, FormulasMean}
use Rattle.rule_reader.proofs.Steps.{upto_none, upto_more, upto_all, upto_length, few_of_formula, ready_formula}
use Rattle.rule_reader.proofs.precondition.formula.Goals as goal

pub loop-written-init : goal.loop-written-init
loop-written-init c = record { means = rw c.new-formula.ensures tt; terms = upto_none c.args.rule.now c.args.names.now c.args.written.now c.args.terms.now c.requires.target }

pub node-requires-clause-ready : goal.node-requires-clause-ready
node-requires-clause-ready c =
    ready_formula c.args.rule.now c.args.names.now c.args.written.now c.loop-written.written-index c.written-item.result c.requires.rule c.requires.formula c.requires.bound (omega arith) c.written-item.is

pub node-requires-clause-few : goal.node-requires-clause-few
node-requires-clause-few c =
    few_of_formula c.args.rule.now c.args.names.now c.args.written.now c.loop-written.written-index c.written-item.result c.loop-written.terms c.requires.rule c.requires.formula (omega arith) c.written-item.is c.loop-written.invariant.terms

pub loop-written-preserved : goal.loop-written-preserved
loop-written-preserved c =
    let raw = c.args.rule.now in
    let names = c.args.names.now in
    let fs = c.args.written.now in
    let k = c.loop-written.written-index in
    let w = c.written-item.result in
    record {
      means = formula_more raw names (nodes_in (target_terms raw)) fs k w _ c.loop-written.formula _ _ (omega arith) c.written-item.is (upto_length raw names fs k c.loop-written.terms c.loop-written.invariant.terms) c.loop-written.invariant.means c.in_ok-push.ensures.ok c.in_ok-node.ensures.formula;
      terms = upto_more raw names fs k w c.loop-written.terms _ (omega arith) c.written-item.is c.loop-written.invariant.terms c.in_ok-node.ensures.means;
    }

pub returns-clause-means : goal.returns-clause-means
returns-clause-means c =
    subst (λ l. FormulasMean c.args.rule.now c.args.names.now (nodes_in (target_terms c.args.rule.now)) l c.loop-written.formula) (take_all c.loop-written.written-index c.args.written.now (omega arith)) c.loop-written.invariant.means

pub returns-clause-terms : goal.returns-clause-terms
returns-clause-terms c = upto_all c.args.rule.now c.args.names.now c.args.written.now c.loop-written.written-index c.loop-written.terms c.requires.formula (omega arith) c.loop-written.invariant.terms
