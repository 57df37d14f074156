use Rattle.rule_typing.proofs.Common.{FitsIn}
use Rattle.rule_typing.proofs.Among.{holds, fails, one_further, each_passes, one_fails}
use Rattle.rule_typing.proofs.fits.operands_fit.Goals as goal

pub returns-then-not-fits : goal.returns-then-not-fits
returns-then-not-fits c =
    one_fails (FitsIn c.args.class c.args.bits) c.args.operands.now c.loop-operand.operand-index c.operand-item.result c.operand-item.is c.loop-operand-test.true
    (fails c.fits.result c.fits.ensures c.if-not-fits.true)

pub loop-operand-preserved : goal.loop-operand-preserved
loop-operand-preserved c =
    one_further (FitsIn c.args.class c.args.bits) c.args.operands.now c.loop-operand.operand-index c.operand-item.result c.operand-item.is
    (holds c.fits.result c.fits.ensures c.if-not-fits.false) c.loop-operand.invariant

pub returns : goal.returns
returns c = each_passes (FitsIn c.args.class c.args.bits) c.args.operands.now c.loop-operand.operand-index c.loop-operand.invariant c.loop-operand-test.false
