use Rattle.rule_typing.proofs.Common.{TermFits}
use Rattle.rule_typing.proofs.Among.{both, not_both, each_of_both}
use Rattle.rule_typing.proofs.fits.all_terms_fit.Goals as goal

pub returns-then-terms_fit : goal.returns-then-terms_fit
returns-then-terms_fit c =
    both c.terms_fit.result c.terms_fit-then-terms_fit.result (rw c.as_slice.ensures at c.terms_fit.ensures) (rw c.as_slice-then-terms_fit.ensures at c.terms_fit-then-terms_fit.ensures)
    (each_of_both (TermFits c.args.class c.args.bits) c.args.rule.now.terms c.args.rule.now.witness_terms) c.if-terms_fit.true

pub returns-else-terms_fit : goal.returns-else-terms_fit
returns-else-terms_fit c =
    not_both c.terms_fit.result (rw c.as_slice.ensures at c.terms_fit.ensures) (each_of_both (TermFits c.args.class c.args.bits) c.args.rule.now.terms c.args.rule.now.witness_terms) c.if-terms_fit.false
