use Rattle.rule_reader.proofs.Common.{arith, subst, sym, take_all}
use Rattle.rule_reader.proofs.Nodes.{added_none, added_more, added_all, added_length, Added}
use Rattle.rule_reader.proofs.Building.{node_fits, node_bound}
use Rattle.rule_reader.proofs.terms.add_term.Goals as goal

pub loop-written-init : goal.loop-written-init
loop-written-init c = added_none c.args.rule.now c.args.names.now c.args.terms.now

pub node-requires-clause-bound : goal.node-requires-clause-bound
node-requires-clause-bound c = node_bound c.args.rule.now c.args.place c.loop-written.written-index c.args.written.now c.written-item.result c.requires.ready.0 (omega arith) c.written-item.is

pub node-requires-clause-fits : goal.node-requires-clause-fits
node-requires-clause-fits c = node_fits _ c.loop-written.written-index c.args.written.now c.written-item.result c.requires.ready.1 (omega arith) (omega arith) c.written-item.is

pub loop-written-preserved : goal.loop-written-preserved
loop-written-preserved c = added_more c.args.rule.now c.args.names.now c.args.terms.now c.args.written.now c.loop-written.written-index c.written-item.result c.loop-written.terms _ _ (omega arith) c.written-item.is c.loop-written.invariant c.in_ok-push.ensures.ok (rw (sym c.len-before.ensures) c.node.ensures)

pub returns-clause-means : goal.returns-clause-means
returns-clause-means c = added_all c.args.rule.now c.args.names.now c.args.terms.now c.loop-written.terms c.args.written.now (subst (λ l. Added c.args.rule.now c.args.names.now c.args.terms.now l c.loop-written.terms) (take_all c.loop-written.written-index c.args.written.now (omega arith)) c.loop-written.invariant)

pub returns-clause-count : goal.returns-clause-count
returns-clause-count c = added_length c.args.rule.now c.args.names.now c.args.terms.now c.loop-written.terms c.args.written.now (subst (λ l. Added c.args.rule.now c.args.names.now c.args.terms.now l c.loop-written.terms) (take_all c.loop-written.written-index c.args.written.now (omega arith)) c.loop-written.invariant)
