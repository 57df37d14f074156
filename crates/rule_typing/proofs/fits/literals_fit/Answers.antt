use Rattle.rule_typing.proofs.Common.{operands_in, terms_in, LiteralsFit, TermsFit}
use Rattle.rule_typing.proofs.Among.{both, not_both}
use Rattle.rule_typing.proofs.fits.literals_fit.Goals as goal

pub returns-then-all_operands_fit : goal.returns-then-all_operands_fit
returns-then-all_operands_fit c =
    both {C = LiteralsFit (operands_in c.args.rule.now) c.args.class c.args.bits × TermsFit (terms_in c.args.rule.now) c.args.class c.args.bits} c.all_operands_fit.result c.all_terms_fit.result c.all_operands_fit.ensures c.all_terms_fit.ensures (λ h. h, λ h. h) c.if-all_operands_fit.true

pub returns-else-all_operands_fit : goal.returns-else-all_operands_fit
returns-else-all_operands_fit c =
    not_both {B = TermsFit (terms_in c.args.rule.now) c.args.class c.args.bits} {C = LiteralsFit (operands_in c.args.rule.now) c.args.class c.args.bits × TermsFit (terms_in c.args.rule.now) c.args.class c.args.bits} c.all_operands_fit.result c.all_operands_fit.ensures (λ h. h, λ h. h) c.if-all_operands_fit.false
