use Rattle.blast_setting.proofs.Common.{List, sym, ap, subst, ◌∙◌, take_all, Statement, choices_among, widths_chosen, HaveWidths}
use Rattle.blast_setting.proofs.ChosenWidths.{statement_widths, widths-more}
use Rattle.blast_setting.proofs.choices.choice_widths.Goals as goal

pub push_widths-requires : goal.push_widths-requires
push_widths-requires c =
    subst (HaveWidths c.args.typing.now) (sym (c.as_slice.ensures ∙ c.of-choices.ensures))
    (statement_widths c.args.typing.now c.args.statements.now c.loop-statement.statement-index c.statement-item.result c.loop-statement-test.true c.statement-item.is c.requires)

pub loop-statement-preserved : goal.loop-statement-preserved
loop-statement-preserved c =
    c.in_ok-push_widths.ensures
    ∙ rw (c.as_slice.ensures, c.of-choices.ensures, c.loop-statement.invariant)
    (sym (widths-more c.args.typing.now c.args.statements.now c.loop-statement.statement-index c.statement-item.result c.loop-statement-test.true c.statement-item.is))

pub returns : goal.returns
returns c =
    c.loop-statement.invariant
    ∙ ap (λ (statements : List Statement). widths_chosen c.args.typing.now (choices_among statements)) (take_all c.loop-statement.statement-index c.args.statements.now c.loop-statement-test.false)
