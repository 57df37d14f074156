use Rattle.blast_setting.proofs.Common.{drop, sym, ap, ◌∙◌, drop-drop, number_held-kept}
use Rattle.blast_setting.proofs.Words.{get_or-behind}
use Rattle.blast_setting.proofs.Making.{poison_made}
use Rattle.blast_setting.proofs.inputs.make_value.Goals as goal

pub returns-clause-value : goal.returns-clause-value
returns-clause-value g c = λ inputs admitted.
    let m = g.C.State in
    let a = c.make_number.ensures.keeps.admitted inputs admitted in
    let behind = c.in_ok-bits.ensures.inputs inputs admitted in
    let kept = number_held-kept c.input.ensures.keeps inputs a c.in_ok-bits.bits c.in_ok-bits.ensures.own in
    poison_made (m.value c.input.new.self inputs) c.in_ok-bits.bits c.in_ok-poison.poison c.args.width (drop (m.inputs_made c.args.c.now) inputs)
    (kept ∙ c.in_ok-bits.ensures.number inputs admitted)
    (c.in_ok-poison.ensures.value inputs a ∙ get_or-behind inputs (drop (m.inputs_made c.args.c.now) inputs) (m.inputs_made c.make_number.new.c) c.args.width behind)

pub returns-clause-inputs : goal.returns-clause-inputs
returns-clause-inputs g c = λ inputs admitted.
    let m = g.C.State in
    let a = c.make_number.ensures.keeps.admitted inputs admitted in
    let start = drop (m.inputs_made c.args.c.now) inputs in
    c.in_ok-poison.ensures.inputs inputs a ∙ sym (drop-drop 1 (m.inputs_made c.make_number.new.c) inputs) ∙ ap (drop 1) (c.in_ok-bits.ensures.inputs inputs admitted) ∙ drop-drop 1 c.args.width start
