use Rattle.blast_rule.proofs.Common.{◌≡◌, ◌↔◌, map, drop, sym, ap, subst, ◌∙◌, arith, IsTrue, IfOk-weaker, Keeps-trans, IsTyping, SettingFits, HaveEffects, effect_of, number_held, setting_held, setting_of, read_fits, Refutes}
use Rattle.blast_rule.proofs.Whole.{gates_within, OnOk-always}
use Rattle.blast_rule.proofs.rule_bits.blast_rule.Goals as goal

pub blast_at-requires-clause-rule : goal.blast_at-requires-clause-rule
blast_at-requires-clause-rule g c = c.requires.rule

pub blast_at-requires-clause-typing : goal.blast_at-requires-clause-typing
blast_at-requires-clause-typing g c = rw c.as_slice-typing.ensures c.requires.typing

pub blast_at-requires-clause-widths : goal.blast_at-requires-clause-widths
blast_at-requires-clause-widths g c = c.in_ok-setting.ensures.widths

pub blast_at-requires-clause-own : goal.blast_at-requires-clause-own
blast_at-requires-clause-own g c = c.in_ok-setting.ensures.own

pub returns-in_err-setting-clause-gates : goal.returns-in_err-setting-clause-gates
returns-in_err-setting-clause-gates g c = omega (arith, c.make_setting.ensures.gates)

pub returns-in_err-setting-clause-keeps : goal.returns-in_err-setting-clause-keeps
returns-in_err-setting-clause-keeps g c = c.make_setting.ensures.keeps

pub returns-clause-bad : goal.returns-clause-bad
returns-clause-bad g c =
    let v = g.C.State.value in
    let rule = c.args.rule.now in
    let typing = c.as_slice-typing.result.now in
    let setting = c.in_ok-setting.setting in
    let typed : IsTyping rule typing = rw c.as_slice-typing.ensures c.requires.typing in
    IfOk-weaker c.blast_at.result _ _
    (λ made known inputs admitted.
    let is : setting_held (v c.make_setting.new.c inputs) setting ≡ setting_of rule typing inputs = c.in_ok-setting.ensures.setting inputs admitted in
    let fits = subst (SettingFits rule typing) (sym is) (read_fits rule typing inputs c.requires.rule typed) in
    let there = known inputs (c.make_setting.ensures.keeps.admitted inputs admitted) fits in
    rw c.as_slice-typing.ensures at (subst (λ s. IsTrue (v c.blast_at.new.c inputs made.bad) ↔ Refutes rule typing s) is there))
    c.blast_at.ensures.bad

pub returns-clause-effects : goal.returns-clause-effects
returns-clause-effects g c =
    let v = g.C.State.value in
    let rule = c.args.rule.now in
    let typing = c.as_slice-typing.result.now in
    IfOk-weaker c.blast_at.result _ _
    (λ made known inputs admitted.
    let now = v c.blast_at.new.c inputs in
    let there = known inputs (c.make_setting.ensures.keeps.admitted inputs admitted) in
    rw c.as_slice-typing.ensures at
    (subst (λ s. HaveEffects rule typing s (map (number_held now) made.choices) (effect_of now made.source) (effect_of now made.target)) (c.in_ok-setting.ensures.setting inputs admitted) there))
    c.blast_at.ensures.effects

pub returns-clause-width : goal.returns-clause-width
returns-clause-width g c = rw c.as_slice-typing.ensures at c.blast_at.ensures.width

pub returns-clause-own : goal.returns-clause-own
returns-clause-own g c = c.blast_at.ensures.own

pub returns-clause-inputs : goal.returns-clause-inputs
returns-clause-inputs g c =
    OnOk-always c.blast_at.result _
    (λ inputs admitted. ap (λ n. drop n inputs) c.blast_at.ensures.adds.inputs ∙ rw c.as_slice-typing.ensures at (c.in_ok-setting.ensures.inputs inputs admitted))

pub returns-clause-gates : goal.returns-clause-gates
returns-clause-gates g c = rw (← c.as_slice-typing.ensures) (gates_within _ _ _ _ c.make_setting.ensures.gates c.blast_at.ensures.adds.gates)

pub returns-clause-keeps : goal.returns-clause-keeps
returns-clause-keeps g c = Keeps-trans c.make_setting.ensures.keeps c.blast_at.ensures.adds.keeps
