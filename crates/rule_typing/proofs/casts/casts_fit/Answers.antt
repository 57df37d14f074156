use Rattle.rule_typing.proofs.CastLines.{all_met}
use Rattle.rule_typing.proofs.casts.casts_fit.Goals as goal

pub returns : goal.returns
returns c = all_met c.args.rule.now c.args.widths.now c.broken_line.result c.is_none.result c.is_none.ensures c.broken_line.ensures.some c.broken_line.ensures.none
