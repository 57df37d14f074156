use Rattle.rule_core.proofs.Common.{◌≡◌, ◌∙◌, List, Option, None, Some, ap, subst, Value, TargetRan}
use Rattle.rule_core.proofs.Returns.{after_ends, after_returns}
use Rattle.rule_core.proofs.run.effect_after.Goals as goal

pub returns-in_default : goal.returns-in_default
returns-in_default c =
    let given = c.args.given in
    let rule = c.args.rule.now in
    after_ends rule given.typing.now given.constants.now given.choices.now c.args.inputs.now c.args.source.now
    (subst (λ terms. TargetRan given.typing.now (record { constants = given.constants.now; choices = given.choices.now; terms = terms }) rule c.args.inputs.now c.args.source.now None) c.requires.terms
    (rw c.in_default.is at c.in_ok-values.ensures))

pub returns : goal.returns
returns c =
    let given = c.args.given in
    let rule = c.args.rule.now in
    let values = c.in-Some.values.items in
    after_returns rule given.typing.now given.constants.now given.choices.now c.args.inputs.now c.args.source.now values c.index.result.now c.requires.rule.target_root
    (subst (λ terms. TargetRan given.typing.now (record { constants = given.constants.now; choices = given.choices.now; terms = terms }) rule c.args.inputs.now c.args.source.now (Some values)) c.requires.terms
    (rw c.in-Some.is at c.in_ok-values.ensures))
    (rw (c.len.ensures, c.in-Some.values.ok.0) at c.index.ensures)
