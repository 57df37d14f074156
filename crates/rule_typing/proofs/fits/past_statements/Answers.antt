use Rattle.rule_typing.proofs.Common.{◌∙◌, Statement, classes_of_statement}
use Rattle.rule_typing.proofs.Past.{past_next, greater}
use Rattle.rule_typing.proofs.fits.past_statements.Goals as goal

pub loop-statement-preserved : goal.loop-statement-preserved
loop-statement-preserved c =
    past_next Statement classes_of_statement c.args.statements.now c.loop-statement.statement-index c.statement-item.result c.loop-statement.past c.past_statement.result c.max-past.result c.loop-statement-test.true c.statement-item.is
    c.loop-statement.invariant c.past_statement.ensures (c.max-past.ensures ∙ greater c.loop-statement.past c.past_statement.result)
