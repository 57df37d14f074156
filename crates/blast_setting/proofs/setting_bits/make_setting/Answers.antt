use Rattle.blast_setting.proofs.Common.{◌∙◌, All, All-same, Keeps-refl, Keeps-trans, IsOwn, AllOwn-kept, AllAll-kept}
use Rattle.blast_setting.proofs.Made.{at_end, setting_made}
use Rattle.blast_setting.proofs.setting_bits.make_setting.Goals as goal

pub returns-in_err-widths-clause-keeps : goal.returns-in_err-widths-clause-keeps
returns-in_err-widths-clause-keeps g c = Keeps-refl

pub returns-in_err-constants-clause-keeps : goal.returns-in_err-constants-clause-keeps
returns-in_err-constants-clause-keeps g c = Keeps-trans c.make_values.ensures.keeps c.make_numbers.ensures.keeps

pub returns-in_err-target_choices-clause-keeps : goal.returns-in_err-target_choices-clause-keeps
returns-in_err-target_choices-clause-keeps g c = Keeps-trans c.make_values.ensures.keeps (Keeps-trans c.make_numbers.ensures.keeps c.make_numbers-2.ensures.keeps)

pub returns-clause-keeps : goal.returns-clause-keeps
returns-clause-keeps g c = Keeps-trans c.make_values.ensures.keeps (Keeps-trans c.make_numbers.ensures.keeps c.make_numbers-2.ensures.keeps)

pub returns-clause-own : goal.returns-clause-own
returns-clause-own g c =
    let m = g.C.State in
    let end = c.make_numbers-2.new.c in record {
      inputs = All-same (IsOwn (m.has_literal end)) _ _ c.from_vec.ensures (AllOwn-kept (Keeps-trans c.make_numbers.ensures.keeps c.make_numbers-2.ensures.keeps) _ c.in_ok-inputs.ensures.own);
      constants = All-same (All (m.has_literal end)) _ _ c.from_vec-2.ensures (AllAll-kept c.make_numbers-2.ensures.keeps _ c.in_ok-constants.ensures.own);
      target_choices = All-same (All (m.has_literal end)) _ _ c.from_vec-3.ensures c.in_ok-target_choices.ensures.own;
    }

pub returns-clause-setting : goal.returns-clause-setting
returns-clause-setting g c =
    let m = g.C.State in
    setting_made c.args.rule.now c.args.typing.now c.args.c.now c.make_values.new.c c.make_numbers.new.c c.make_numbers-2.new.c
    c.make_values.ensures.keeps c.make_numbers.ensures.keeps c.make_numbers-2.ensures.keeps c.requires.no_inputs _ _
    (c.deref.ensures.value ∙ c.in_ok-widths.ensures.inputs) (c.deref-2.ensures.value ∙ c.in_ok-widths.ensures.constants)
    c.in_ok-inputs.ensures.inputs c.in_ok-constants.ensures.inputs _
    (c.deref-3.ensures.value ∙ c.in_ok-widths.ensures.choices)
    c.in_ok-inputs.inputs.items c.in_ok-constants.constants.items c.in_ok-target_choices.target_choices.items
    c.in_ok-inputs.ensures.own c.in_ok-constants.ensures.own c.in_ok-inputs.ensures.values c.in_ok-constants.ensures.numbers c.in_ok-target_choices.ensures.numbers
    _ c.from_vec.ensures c.from_vec-2.ensures c.from_vec-3.ensures

pub returns-clause-inputs : goal.returns-clause-inputs
returns-clause-inputs g c =
    let m = g.C.State in
    at_end c.args.rule.now c.args.typing.now c.args.c.now c.make_values.new.c c.make_numbers.new.c c.make_numbers-2.new.c
    c.make_values.ensures.keeps c.make_numbers.ensures.keeps c.make_numbers-2.ensures.keeps c.requires.no_inputs _ _
    (c.deref.ensures.value ∙ c.in_ok-widths.ensures.inputs) (c.deref-2.ensures.value ∙ c.in_ok-widths.ensures.constants)
    c.in_ok-inputs.ensures.inputs c.in_ok-constants.ensures.inputs _
    (c.deref-3.ensures.value ∙ c.in_ok-widths.ensures.choices)
    c.in_ok-target_choices.ensures.inputs
