use Rattle.rule_typing.proofs.Common.{◌∙◌, get_or, pos, Term, classes_of_term}
use Rattle.rule_core.specs.declared.rule.Node.TheVariants as nodes
use Rattle.rule_typing.proofs.Past.{past_next, greater}
use Rattle.rule_typing.proofs.Walks.{stands_still}
use Rattle.rule_typing.proofs.fits.past_terms.Goals as goal

-- the default for a place without a node
abbrev none_term : Term
none_term = record { class = 0; node = nodes.Literal (pos 0) }

pub loop-term-preserved : goal.loop-term-preserved
loop-term-preserved c =
    past_next Term classes_of_term c.args.terms.now c.loop-term.term-index (get_or c.args.terms.now c.loop-term.term-index none_term) c.loop-term.past c.past_term.result c.max-past.result c.loop-term-test.true (stands_still c.args.terms.now c.loop-term.term-index none_term c.loop-term-test.true)
    c.loop-term.invariant c.past_term.ensures (c.max-past.ensures ∙ greater c.loop-term.past c.past_term.result)
