use Rattle.blast_setting.proofs.Common.{List, [], ◌∷◌, ◌++◌, take, sym, ap, ◌∙◌, append_assoc, append-nil, get_or, take_all, Choice, widths_chosen}
use Rattle.blast_setting.proofs.ChosenWidths.{width_indexed, widths-one_more}
use Rattle.blast_setting.proofs.choices.push_widths.Goals as goal

-- a choice that is read past the end of a list
none : Choice
none = record { place = 0; class = 0 }

pub bounds-typing-choice : goal.bounds-typing-choice
unfolding none
bounds-typing-choice c = c.requires c.loop-choice.choice-index none c.loop-choice-test.true

pub loop-choice-init : goal.loop-choice-init
loop-choice-init c = sym (append-nil c.args.widths.now.items)

pub loop-choice-preserved : goal.loop-choice-preserved
unfolding none
loop-choice-preserved c =
    let before = c.args.widths.now.items in
    let choices = c.args.choices.now in
    let i = c.loop-choice.choice-index in
    let within = c.loop-choice-test.true in
    let taken = widths_chosen c.args.typing.now (take i choices) in
    let width = c.index-typing-choice.result in
    let same = width_indexed c.args.typing.now (get_or choices i none).class width (c.requires i none within) c.index-typing-choice.is in
    c.in_ok-push.ensures.items ∙ ap (λ widths. widths ++ width ∷ []) c.loop-choice.invariant ∙ append_assoc before taken (width ∷ [])
    ∙ ap (λ N. before ++ (taken ++ N ∷ [])) (sym same) ∙ ap (λ widths. before ++ widths) (sym (widths-one_more c.args.typing.now choices i none within))

pub returns : goal.returns
returns c =
    c.loop-choice.invariant
    ∙ ap (λ (choices : List Choice). c.args.widths.now.items ++ widths_chosen c.args.typing.now choices)
    (take_all c.loop-choice.choice-index c.args.choices.now c.loop-choice-test.false)
