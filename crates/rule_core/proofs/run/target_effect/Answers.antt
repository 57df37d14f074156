use Rattle.rule_core.proofs.Common.{◌-◌, List, [], Option, None, Some, length, take, sym, ap, subst, ◌∙◌, arith, IfOk-weaker, Value, TargetGoesOn, GivenFits, SourceRan, ValuesFit}
use Rattle.rule_core.proofs.Givens.{given_before_root, target_given}
use Rattle.rule_core.proofs.Returns.{target_ends, target_follows}
use Rattle.rule_core.proofs.run.target_effect.Goals as goal

pub source_values-requires-clause-given : goal.source_values-requires-clause-given
source_values-requires-clause-given c =
    let rule = c.args.rule.now in
    let typing = c.args.given.typing.now in
    let constants = c.args.given.constants.now in
    rw c.len-count.ensures
    (subst (λ terms. GivenFits rule typing (take (length rule.source - 1) rule.source) (record { constants = constants; choices = []; terms = terms })) (sym c.requires.terms)
    (given_before_root rule typing constants c.requires.rule c.requires.typing c.requires.constants))

pub effect_after-requires-clause-given : goal.effect_after-requires-clause-given
effect_after-requires-clause-given c =
    let rule = c.args.rule.now in
    let typing = c.args.given.typing.now in
    let constants = c.args.given.constants.now in
    let choices = c.args.given.choices.now in
    subst (λ terms. GivenFits rule typing rule.target (record { constants = constants; choices = choices; terms = terms })) (sym c.requires.terms)
    (target_given rule typing constants c.requires.rule c.requires.typing c.requires.constants choices c.requires.choices)

pub effect_after-requires-clause-count : goal.effect_after-requires-clause-count
effect_after-requires-clause-count c =
    let ran = rw c.in-Some.is at c.in_ok-source.ensures in
    omega (arith, ran.0, c.len-count.ensures, ap length c.deref.ensures.value, c.requires.rule.source_root)

pub effect_after-requires-clause-source : goal.effect_after-requires-clause-source
effect_after-requires-clause-source c =
    let ran = rw c.in-Some.is at c.in_ok-source.ensures in
    subst (ValuesFit c.args.given.typing.now c.args.rule.now.source) (sym c.deref.ensures.value) ran.1

pub returns-in_default : goal.returns-in_default
returns-in_default c =
    let given = c.args.given in
    let rule = c.args.rule.now in
    target_ends rule given.typing.now given.constants.now given.choices.now c.args.inputs.now
    (subst (λ terms. SourceRan given.typing.now (record { constants = given.constants.now; choices = []; terms = terms }) rule c.args.inputs.now (length rule.source - 1) None) c.requires.terms
    (rw (c.in_default.is, c.len-count.ensures) at c.in_ok-source.ensures))

pub returns : goal.returns
returns c =
    let given = c.args.given in
    let rule = c.args.rule.now in
    let inputs = c.args.inputs.now in
    let source = c.in-Some.source.items in
    let ran = subst (λ terms. SourceRan given.typing.now (record { constants = given.constants.now; choices = []; terms = terms }) rule inputs (length rule.source - 1) (Some source)) c.requires.terms
    (rw (c.in-Some.is, c.len-count.ensures) at c.in_ok-source.ensures) in
    IfOk-weaker c.effect_after.result _ _ (λ effect goes.
    target_follows rule given.typing.now given.constants.now given.choices.now inputs source ran effect
    (subst (λ s. TargetGoesOn given.typing.now given.constants.now given.choices.now rule (record { inputs = inputs; source = s; target = [] }) effect) c.deref.ensures.value goes))
    c.effect_after.ensures
