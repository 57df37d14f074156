use Rattle.rule_typing.proofs.Common.{get_or, pos, Term, LineOf, term_pairs, term_naming}
use Rattle.rule_core.specs.declared.rule.Node.TheVariants as nodes
use Rattle.rule_typing.proofs.Walks.{AreOne, stands_still, split_here, none_splits}
use Rattle.rule_typing.proofs.Among.{one_further}
use Rattle.rule_typing.proofs.term_lines.split_by_terms.Goals as goal

-- the default for a place without a node
abbrev none_term : Term
none_term = record { class = 0; node = nodes.Literal (pos 0) }

pub returns-in-Some : goal.returns-in-Some
returns-in-Some c = split_here (LineOf c.args.rule.now (term_pairs c.args.terms.now) term_naming) c.args.terms.now c.loop-term.term-index (get_or c.args.terms.now c.loop-term.term-index none_term) c.in-Some.pair (stands_still c.args.terms.now c.loop-term.term-index none_term c.loop-term-test.true) c.loop-term-test.true c.in-Some.ensures

pub loop-term-preserved : goal.loop-term-preserved
loop-term-preserved c = one_further (λ x. AreOne ((LineOf c.args.rule.now (term_pairs c.args.terms.now) term_naming) x)) c.args.terms.now c.loop-term.term-index (get_or c.args.terms.now c.loop-term.term-index none_term) (stands_still c.args.terms.now c.loop-term.term-index none_term c.loop-term-test.true) c.in_default.ensures c.loop-term.invariant

pub returns : goal.returns
returns c = none_splits (LineOf c.args.rule.now (term_pairs c.args.terms.now) term_naming) c.args.terms.now c.loop-term.term-index c.loop-term.invariant c.loop-term-test.false
