use Rattle.rule_typing.proofs.Common.{FitsIn}
use Rattle.rule_typing.proofs.Among.{both, not_both, each_rule}
use Rattle.rule_typing.proofs.fits.all_operands_fit.Goals as goal

pub returns-then-statements_fit : goal.returns-then-statements_fit
returns-then-statements_fit c =
    both c.statements_fit.result c.statements_fit-then-statements_fit.result (rw c.as_slice.ensures at c.statements_fit.ensures) (rw c.as_slice-then-statements_fit.ensures at c.statements_fit-then-statements_fit.ensures)
    (each_rule (FitsIn c.args.class c.args.bits) c.args.rule.now) c.if-statements_fit.true

pub returns-else-statements_fit : goal.returns-else-statements_fit
returns-else-statements_fit c =
    not_both c.statements_fit.result (rw c.as_slice.ensures at c.statements_fit.ensures) (each_rule (FitsIn c.args.class c.args.bits) c.args.rule.now) c.if-statements_fit.false
