use Rattle.blast_setting.proofs.Common.{◌≡◌, length, Some, refl, ◌∙◌, slice_get, slice_get_read, Keeps, Held, held_value, IsOwn, IsOwn-kept, held_value-kept, value_bits, value_read, Keeps-trans, Keeps-refl}
use Rattle.blast_setting.proofs.Making.{all_made_none, all_made_more, all_made_widths, all_made_behind, all_made_read}
use Rattle.blast_setting.proofs.inputs.make_values.Goals as goal

pub loop-width-init : goal.loop-width-init
loop-width-init g c =
    let m = g.C.State in
    record {
      keeps = Keeps-refl;
      gates = refl;
      all = all_made_none m.admits m.inputs_made (Keeps m) (λ old new k inputs admitted. k.admitted inputs admitted)
          (λ now x. IsOwn (m.has_literal now) x) (λ old new k x own. IsOwn-kept k x own) (λ now inputs x. held_value (m.value now inputs) x) (λ old new k inputs admitted x own. held_value-kept k inputs admitted x own)
          value_read value_bits (λ (h : Held _). length h.bits) c.args.c.now c.args.widths.now _ c.new-held.ensures.items;
    }

pub loop-width-preserved : goal.loop-width-preserved
loop-width-preserved g c =
    let m = g.C.State in
    let before = c.loop-width.invariant in
    let widths = c.args.widths.now in
    let at : slice_get widths c.loop-width.width-index ≡ Some c.width-item.result = slice_get_read widths (length widths) c.loop-width.width-index c.width-item.result refl c.loop-width-test.true c.width-item.is in
    rw c.in_ok-push.ensures.items record {
      keeps = Keeps-trans before.keeps c.make_value.ensures.keeps;
      gates = c.make_value.ensures.gates ∙ before.gates;
      all = all_made_more m.admits m.inputs_made (Keeps m) (λ old new k inputs admitted. k.admitted inputs admitted)
          (λ now x. IsOwn (m.has_literal now) x) (λ old new k x own. IsOwn-kept k x own) (λ now inputs x. held_value (m.value now inputs) x) (λ old new k inputs admitted x own. held_value-kept k inputs admitted x own)
          value_read value_bits (λ (h : Held _). length h.bits) c.args.c.now c.loop-width.c c.make_value.new.c widths c.loop-width.held.items c.loop-width.width-index c.width-item.result c.in_ok-make_value.field-0
          before.all (λ inputs admitted. before.keeps.admitted inputs admitted) c.make_value.ensures.keeps at c.in_ok-make_value.ensures.width c.in_ok-make_value.ensures.own
          c.in_ok-make_value.ensures.inputs c.in_ok-make_value.ensures.value;
    }

pub returns-clause-values : goal.returns-clause-values
returns-clause-values g c =
    let m = g.C.State in
    let widths = c.args.widths.now in
    all_made_read m.admits m.inputs_made (Keeps m) (λ old new k inputs admitted. k.admitted inputs admitted)
    (λ now x. IsOwn (m.has_literal now) x) (λ old new k x own. IsOwn-kept k x own) (λ now inputs x. held_value (m.value now inputs) x) (λ old new k inputs admitted x own. held_value-kept k inputs admitted x own)
    value_read value_bits (λ (h : Held _). length h.bits) c.args.c.now c.loop-width.c widths c.loop-width.held.items c.loop-width.width-index c.loop-width.invariant.all c.loop-width-test.false

pub returns-clause-widths : goal.returns-clause-widths
returns-clause-widths g c =
    let m = g.C.State in
    let widths = c.args.widths.now in
    all_made_widths m.admits m.inputs_made (Keeps m) (λ old new k inputs admitted. k.admitted inputs admitted)
    (λ now x. IsOwn (m.has_literal now) x) (λ old new k x own. IsOwn-kept k x own) (λ now inputs x. held_value (m.value now inputs) x) (λ old new k inputs admitted x own. held_value-kept k inputs admitted x own)
    value_read value_bits (λ (h : Held _). length h.bits) c.args.c.now c.loop-width.c widths c.loop-width.held.items c.loop-width.width-index c.loop-width.invariant.all c.loop-width-test.false

pub returns-clause-inputs : goal.returns-clause-inputs
returns-clause-inputs g c =
    let m = g.C.State in
    let widths = c.args.widths.now in
    all_made_behind m.admits m.inputs_made (Keeps m) (λ old new k inputs admitted. k.admitted inputs admitted)
    (λ now x. IsOwn (m.has_literal now) x) (λ old new k x own. IsOwn-kept k x own) (λ now inputs x. held_value (m.value now inputs) x) (λ old new k inputs admitted x own. held_value-kept k inputs admitted x own)
    value_read value_bits (λ (h : Held _). length h.bits) c.args.c.now c.loop-width.c widths c.loop-width.held.items c.loop-width.width-index c.loop-width.invariant.all c.loop-width-test.false
