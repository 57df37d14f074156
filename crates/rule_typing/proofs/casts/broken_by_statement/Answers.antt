use Rattle.rule_typing.proofs.Common.{sym}
use Rattle.rule_typing.proofs.Among.{fails}
use Rattle.rule_typing.proofs.CastLines.{broken_from}
use Rattle.rule_typing.proofs.casts.broken_by_statement.Goals as goal

pub returns-else-is_below-clause-some : goal.returns-else-is_below-clause-some
returns-else-is_below-clause-some c =
    (sym c.in-Some.ensures, broken_from c.args.widths.now c.in-Some.line.0 c.in-Some.line.1 (fails c.is_below.result c.is_below.ensures c.if-is_below.false))
