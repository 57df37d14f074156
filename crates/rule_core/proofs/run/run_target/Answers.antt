use Rattle.rule_core.proofs.Common.{sym, subst, ◌∙◌, IsTyping, InputsFit, ConstantsFit, TargetChoicesFit}
use Rattle.rule_core.proofs.run.run_target.Goals as goal

pub constant_values-requires-clause-typing : goal.constant_values-requires-clause-typing
constant_values-requires-clause-typing c = subst (IsTyping c.args.rule.now) (sym c.as_slice-typing.ensures) c.requires.typing

pub constant_values-requires-clause-constants : goal.constant_values-requires-clause-constants
constant_values-requires-clause-constants c =
    subst (λ typing. ConstantsFit c.args.rule.now typing c.as_slice-constants.result.now) (sym c.as_slice-typing.ensures)
    (subst (ConstantsFit c.args.rule.now c.args.typing.now) (sym c.as_slice-constants.ensures) c.requires.constants)

pub target_effect-requires-clause-typing : goal.target_effect-requires-clause-typing
target_effect-requires-clause-typing c = subst (IsTyping c.args.rule.now) (sym c.as_slice-typing.ensures) c.requires.typing

pub target_effect-requires-clause-constants : goal.target_effect-requires-clause-constants
target_effect-requires-clause-constants c =
    subst (λ typing. ConstantsFit c.args.rule.now typing c.as_slice-constants.result.now) (sym c.as_slice-typing.ensures)
    (subst (ConstantsFit c.args.rule.now c.args.typing.now) (sym c.as_slice-constants.ensures) c.requires.constants)

pub target_effect-requires-clause-choices : goal.target_effect-requires-clause-choices
target_effect-requires-clause-choices c =
    subst (λ typing. TargetChoicesFit c.args.rule.now typing c.as_slice.result.now) (sym c.as_slice-typing.ensures)
    (subst (TargetChoicesFit c.args.rule.now c.args.typing.now) (sym c.as_slice.ensures) c.requires.choices)

pub target_effect-requires-clause-terms : goal.target_effect-requires-clause-terms
target_effect-requires-clause-terms c = c.deref.ensures.value ∙ c.in_ok-terms.ensures

pub target_effect-requires-clause-inputs : goal.target_effect-requires-clause-inputs
target_effect-requires-clause-inputs c =
    subst (λ typing. InputsFit c.args.rule.now typing c.as_slice-2.result.now) (sym c.as_slice-typing.ensures)
    (subst (InputsFit c.args.rule.now c.args.typing.now) (sym c.as_slice-2.ensures) c.requires.inputs)

pub returns : goal.returns
returns c =
    rw (c.as_slice-typing.ensures, c.as_slice-constants.ensures, c.as_slice.ensures, c.as_slice-2.ensures) at c.target_effect.ensures
