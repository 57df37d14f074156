use Rattle.blast_setting.proofs.Common.{List, refl, sym, ap, subst, ◌∙◌, Statement, choices_among, Input, Constant, widths_chosen, HaveWidths}
use Rattle.blast_setting.proofs.ChosenWidths.{have_widths}
use Rattle.blast_setting.proofs.Settings.{are_named_as, widths_as}
use Rattle.blast_setting.proofs.setting_widths.SettingWidths.of.Goals as goal

pub named_widths-requires : goal.named_widths-requires
named_widths-requires c =
    are_named_as c.args.rule.now c.args.typing.now Input c.requires.rule c.requires.typing _ _ _ refl c.as_slice-source.ensures c.len-inputs.ensures

pub named_widths-requires-2 : goal.named_widths-requires-2
named_widths-requires-2 c =
    are_named_as c.args.rule.now c.args.typing.now Constant c.requires.rule c.requires.typing _ _ _ refl c.as_slice-source.ensures c.len-constants.ensures

pub choice_widths-requires : goal.choice_widths-requires
choice_widths-requires c =
    subst (λ (statements : List Statement). HaveWidths c.args.typing.now (choices_among statements)) (sym c.as_slice.ensures) (have_widths c.args.rule.now c.args.typing.now c.requires.typing)

pub returns-clause-inputs : goal.returns-clause-inputs
returns-clause-inputs c =
    c.in_ok-named_widths.ensures ∙ widths_as c.args.rule.now c.args.typing.now Input c.args.typing.now c.as_slice-source.result.now c.len-inputs.result refl c.as_slice-source.ensures c.len-inputs.ensures

pub returns-clause-constants : goal.returns-clause-constants
returns-clause-constants c =
    c.in_ok-named_widths-2.ensures ∙ widths_as c.args.rule.now c.args.typing.now Constant c.args.typing.now c.as_slice-source.result.now c.len-constants.result refl c.as_slice-source.ensures c.len-constants.ensures

pub returns-clause-choices : goal.returns-clause-choices
returns-clause-choices c = c.in_ok-choice_widths.ensures ∙ ap (λ (statements : List Statement). widths_chosen c.args.typing.now (choices_among statements)) c.as_slice.ensures
