use Rattle.rewriter.proofs.Common.{◌<◌, ◌^◌, ◌∙◌, ap, sym, arith, pow-lt, argument_put}
use Rattle.rewriter.proofs.TargetReads.{constant_put}
use Rattle.rewriter.proofs.operands.argument_put.Goals as goal
use Rattle.rewriter.proofs.operands.argument_put.Goals.{then-truth, else-truth}

pub fitting-requires-in-Truth : goal.fitting-requires-in-Truth
fitting-requires-in-Truth c =
    let fits : 2 ^ 0 < 2 ^ c.args.width = pow-lt c.requires.width in
    elim c.if-truth.branch [ then-truth w ↦ omega arith | else-truth w ↦ omega arith ]

pub returns-in-Constant : goal.returns-in-Constant
returns-in-Constant c =
    constant_put c.args.rule.now c.args.binding.now c.args.results.now c.args.width _ c.args.argument c.in-Constant.k c.as_slice.result.now c.index-as_slice-k.result c.requires.bound c.requires.argument c.in-Constant.is
    c.as_slice.ensures c.index-as_slice-k.is

pub returns-in-Register : goal.returns-in-Register
returns-in-Register c = c.register_put.ensures c.args.width ∙ ap (argument_put c.args.rule.now c.args.binding.now c.args.results.now c.args.width) (sym c.in-Register.is)
