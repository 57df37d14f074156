use Rattle.rule_typing.proofs.Common.{get_or, pos, Term, TermFits}
use Rattle.rule_core.specs.declared.rule.Node.TheVariants as nodes
use Rattle.rule_typing.proofs.Among.{holds, fails, one_further, each_passes, one_fails}
use Rattle.rule_typing.proofs.Walks.{stands_still}
use Rattle.rule_typing.proofs.fits.terms_fit.Goals as goal

-- the default for a place without a node
abbrev none_term : Term
none_term = record { class = 0; node = nodes.Literal (pos 0) }

pub returns-then-not-term_fits : goal.returns-then-not-term_fits
returns-then-not-term_fits c =
    one_fails (TermFits c.args.class c.args.bits) c.args.terms.now c.loop-term.term-index (get_or c.args.terms.now c.loop-term.term-index none_term) (stands_still c.args.terms.now c.loop-term.term-index none_term c.loop-term-test.true) c.loop-term-test.true
    (fails c.term_fits.result c.term_fits.ensures c.if-not-term_fits.true)

pub loop-term-preserved : goal.loop-term-preserved
loop-term-preserved c =
    one_further (TermFits c.args.class c.args.bits) c.args.terms.now c.loop-term.term-index (get_or c.args.terms.now c.loop-term.term-index none_term) (stands_still c.args.terms.now c.loop-term.term-index none_term c.loop-term-test.true)
    (holds c.term_fits.result c.term_fits.ensures c.if-not-term_fits.false) c.loop-term.invariant

pub returns : goal.returns
returns c = each_passes (TermFits c.args.class c.args.bits) c.args.terms.now c.loop-term.term-index c.loop-term.invariant c.loop-term-test.false
