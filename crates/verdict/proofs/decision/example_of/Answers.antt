use Rattle.verdict.proofs.Common.{refl, take, setting_of}
use Rattle.verdict.proofs.Chain.{model_refutes}
use Rattle.verdict.proofs.Examples.{counterexample_with, refuted_by}
use Rattle.verdict.proofs.Widths.{root_width_fits, choices_wide}
use Rattle.verdict.proofs.decision.example_of.Goals as goal

pub words_read-requires : goal.words_read-requires
words_read-requires c =
    let rule = c.args.rule.now in
    let typing = c.args.typing.now in
    let setting = setting_of rule typing (take c.len.result c.as_slice.result.now) in
    let given = rw (c.new-circuit.ensures, c.from_vec.ensures, c.in_ok-from_slice.ensures.items) at c.in_ok-made.ensures.effects in
    let refutes = rw (← c.len.ensures, ← c.as_slice.ensures) at (model_refutes rule typing c.args.set.now c.requires.stands c.args.model.now c.requires.model) in
    let bad = counterexample_with c.every_rule_has_one_outcome.ensures rule typing setting c.requires.rule c.requires.typing refutes _ _ _ (given _ refl) in
    rw c.as_slice-2.ensures (choices_wide rule typing c.requires.rule c.requires.typing (λ b. b) c.in_ok-made.made.choices setting _ _ bad)

pub effect_read-requires : goal.effect_read-requires
effect_read-requires c = rw c.in_ok-made.ensures.width.source (root_width_fits c.args.rule.now c.args.typing.now c.requires.rule c.requires.typing)

pub effect_read-requires-2 : goal.effect_read-requires-2
effect_read-requires-2 c = rw c.in_ok-made.ensures.width.target (root_width_fits c.args.rule.now c.args.typing.now c.requires.rule c.requires.typing)

pub returns : goal.returns
returns c =
    let rule = c.args.rule.now in
    let typing = c.args.typing.now in
    let setting = setting_of rule typing (take c.len.result c.as_slice.result.now) in
    let given = rw (c.new-circuit.ensures, c.from_vec.ensures, c.in_ok-from_slice.ensures.items) at c.in_ok-made.ensures.effects in
    let refutes = rw (← c.len.ensures, ← c.as_slice.ensures) at (model_refutes rule typing c.args.set.now c.requires.stands c.args.model.now c.requires.model) in
    refuted_by c.every_rule_has_one_outcome.ensures rule typing c.requires.rule c.requires.typing setting refutes _ _ _ (given _ refl)
    _ c.in_ok-setting.ensures.inputs c.in_ok-setting.ensures.constants c.in_ok-setting.ensures.target_choices (rw c.as_slice-2.ensures at c.in_ok-words_read.ensures) c.effect_read.ensures c.effect_read-2.ensures
