use Rattle.blast_setting.proofs.Common.{sym, ◌∙◌, arith, take_all, named_widths}
use Rattle.blast_setting.proofs.Widths.{length-named_widths}
use Rattle.blast_setting.proofs.Settings.{named_widths-more}
use Rattle.blast_setting.proofs.named.named_widths.Goals as goal

pub named_width-requires : goal.named_width-requires
named_width-requires c = c.requires c.loop-k.k (omega arith)

pub loop-k-preserved : goal.loop-k-preserved
loop-k-preserved c =
    c.in_ok-push.ensures.items
    ∙ rw (c.loop-k.invariant, c.named_width.ensures) (sym (named_widths-more c.args.typing.now c.args.kind c.args.statements.now c.args.count c.loop-k.k (omega arith)))

pub returns : goal.returns
returns c =
    c.loop-k.invariant
    ∙ take_all c.loop-k.k (named_widths c.args.typing.now c.args.statements.now c.args.kind c.args.count) (omega (arith, length-named_widths c.args.typing.now c.args.statements.now c.args.kind c.args.count))
