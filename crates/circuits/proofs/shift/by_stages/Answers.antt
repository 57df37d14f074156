use Rattle.circuits.proofs.Common.{◌≡◌, ◌^◌, ◌<◌, ◌≤◌, length, map, ◌∙◌, ap, sym, subst, arith, All, mul-le-mul_left, take_all, moved, number_of}
use Rattle.circuits.proofs.Kept.{Adds-trans, Adds-weaken, own_at}
use Rattle.circuits.proofs.Stages.{stage_inside, stage_place, stage_distance, stage_gates}
use Rattle.circuits.proofs.Shifts.{All-moved, moved_more}
use Rattle.circuits.proofs.shift.by_stages.Goals as goal

pub overflow_shl-i : goal.overflow_shl-i
overflow_shl-i g c =
    let fits : length c.args.a.now < 2 ^ 64 = omega (arith, c.as_slice.type_inv.0, ap length c.as_slice.ensures) in
    stage_place c.loop-i.i (length c.args.amount.now) (length c.args.a.now) c.loop-i-test.true c.requires.few fits

pub moved_by-requires : goal.moved_by-requires
moved_by-requires g c =
    let fits : length c.args.a.now < 2 ^ 64 = omega (arith, c.as_slice.type_inv.0, ap length c.as_slice.ensures) in
    rw (stage_distance c.loop-i.i (length c.args.amount.now) (length c.args.a.now) c.loop-i-test.true c.requires.few fits)
    (omega (arith, stage_inside c.loop-i.i (length c.args.amount.now) (length c.args.a.now) c.loop-i-test.true c.requires.few fits, ap length c.as_slice.ensures))

pub loop-i-preserved : goal.loop-i-preserved
loop-i-preserved g c =
    let m = g.C.State in
    let before = c.loop-i.invariant in
    let i = c.loop-i.i in
    let in_amount : i < length c.args.amount.now = c.loop-i-test.true in
    let fits : length c.args.a.now < 2 ^ 64 = omega (arith, c.as_slice.type_inv.0, ap length c.as_slice.ensures) in
    let inside : 2 ^ i ≤ length c.args.a.now = omega (arith, stage_inside i (length c.args.amount.now) (length c.args.a.now) in_amount c.requires.few fits) in
    let distance = stage_distance i (length c.args.amount.now) (length c.args.a.now) in_amount c.requires.few fits in
    let further_is = rw (c.as_slice.ensures, distance) at c.in_ok-further.ensures.bits in
    let slice_width : length c.as_slice-in-loop-i.result.now ≡ length c.args.a.now = ap length c.as_slice-in-loop-i.ensures ∙ c.in_ok-further.ensures.width ∙ ap length c.as_slice.ensures ∙ before.2 in (
      Adds-weaken (Adds-trans before.0 c.select.ensures.adds) (omega arith),
      c.in_ok-word.ensures.own,
      c.in_ok-word.ensures.width ∙ slice_width,
      λ inputs admitted.
          let bit_kept = before.0.keeps.values inputs c.index-amount-i.result admitted (own_at (m.has_literal c.args.c.now) c.args.amount.now i c.index-amount-i.result c.requires.own_amount in_amount c.index-amount-i.is) in
          let chosen = rw (c.as_slice-in-loop-i.ensures, c.as_slice-in-loop-i-2.ensures) at (c.in_ok-word.ensures.values inputs (before.0.keeps.admitted inputs admitted)) in
          let fill_kept = before.0.keeps.values inputs c.args.fill admitted c.requires.own_fill in
          let in_word : 2 ^ i ≤ length c.loop-i.word = omega arith in
          moved_more c.args.direction (m.value c.args.c.now inputs) (m.value c.loop-i.c inputs) (m.value c.select.new.c inputs) c.args.a.now c.args.amount.now c.loop-i.word c.in_ok-further.further c.in_ok-word.word i c.index-amount-i.result c.args.fill in_amount c.index-amount-i.is bit_kept fill_kept in_word further_is chosen (before.3 inputs admitted),
    )

pub returns-in_err-word-clause-adds : goal.returns-in_err-word-clause-adds
returns-in_err-word-clause-adds g c =
    let more = stage_gates (length c.args.a.now) c.loop-i.i (length c.args.amount.now) c.loop-i-test.true in
    let slice_width : length c.as_slice-in-loop-i.result.now ≡ length c.args.a.now = ap length c.as_slice-in-loop-i.ensures ∙ c.in_ok-further.ensures.width ∙ ap length c.as_slice.ensures ∙ c.loop-i.invariant.2 in
    Adds-weaken (Adds-trans c.loop-i.invariant.0 c.select.ensures.adds) (omega arith)

pub select-requires-clause-same_width : goal.select-requires-clause-same_width
select-requires-clause-same_width g c =
    ap length c.as_slice-in-loop-i-2.ensures ∙ sym (ap length c.as_slice-in-loop-i.ensures ∙ c.in_ok-further.ensures.width ∙ ap length c.as_slice.ensures)

pub select-requires-clause-own_condition : goal.select-requires-clause-own_condition
select-requires-clause-own_condition g c =
    c.loop-i.invariant.0.keeps.literals c.index-amount-i.result (own_at (g.C.State.has_literal c.args.c.now) c.args.amount.now c.loop-i.i c.index-amount-i.result c.requires.own_amount c.loop-i-test.true c.index-amount-i.is)

pub select-requires-clause-own_yes : goal.select-requires-clause-own_yes
select-requires-clause-own_yes g c =
    let P = g.C.State.has_literal c.loop-i.c in
    let own : All P c.as_slice.result.now = subst (All P) (sym c.as_slice.ensures) c.loop-i.invariant.1 in
    subst (All P) (sym (c.as_slice-in-loop-i.ensures ∙ c.in_ok-further.ensures.bits))
    (All-moved P c.args.direction c.args.fill _ c.as_slice.result.now (c.loop-i.invariant.0.keeps.literals c.args.fill c.requires.own_fill) own)

pub select-requires-clause-own_no : goal.select-requires-clause-own_no
select-requires-clause-own_no g c = subst (All (g.C.State.has_literal c.loop-i.c)) (sym c.as_slice-in-loop-i-2.ensures) c.loop-i.invariant.1

pub returns-in_err-further-clause-adds : goal.returns-in_err-further-clause-adds
returns-in_err-further-clause-adds g c =
    let inside : c.loop-i.i ≤ length c.args.amount.now = omega arith in
    Adds-weaken c.loop-i.invariant.0 (mul-le-mul_left (length c.args.a.now) inside)

pub returns-clause-values : goal.returns-clause-values
returns-clause-values g c inputs admitted =
    let value = g.C.State.value c.args.c.now inputs in
    c.loop-i.invariant.3 inputs admitted
    ∙ ap (λ bits. moved c.args.direction (value c.args.fill) (number_of value bits) (map value c.args.a.now)) (take_all c.loop-i.i c.args.amount.now (omega arith))

pub returns-clause-adds : goal.returns-clause-adds
returns-clause-adds g c =
    let inside : c.loop-i.i ≤ length c.args.amount.now = omega arith in
    Adds-weaken c.loop-i.invariant.0 (mul-le-mul_left (length c.args.a.now) inside)
