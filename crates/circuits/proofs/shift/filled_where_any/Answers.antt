use Rattle.circuits.proofs.Common.{◌≡◌, length, sym, ap, subst, ◌∙◌, arith, All, length-replicate, All-replicate, IfOk-weaker}
use Rattle.circuits.proofs.Kept.{All-kept, map-kept, Adds-trans, Adds-weaken}
use Rattle.circuits.proofs.Words.{map-replicate}
use Rattle.circuits.proofs.shift.filled_where_any.Goals as goal

pub returns-in_err-is_far-clause-adds : goal.returns-in_err-is_far-clause-adds
returns-in_err-is_far-clause-adds g c = Adds-weaken c.any.ensures.adds (omega arith)

pub returns-in_err-filled-clause-adds : goal.returns-in_err-filled-clause-adds
returns-in_err-filled-clause-adds g c = Adds-weaken c.any.ensures.adds (omega arith)

pub select-requires-clause-same_width : goal.select-requires-clause-same_width
select-requires-clause-same_width g c =
    sym (ap length (c.as_slice.ensures ∙ c.in_ok-filled.ensures) ∙ length-replicate (length c.args.word.now) c.args.fill)

pub select-requires-clause-own_yes : goal.select-requires-clause-own_yes
select-requires-clause-own_yes g c =
    let P = g.C.State.has_literal c.any.new.c in
    subst (All P) (sym (c.as_slice.ensures ∙ c.in_ok-filled.ensures))
    (All-replicate P (length c.args.word.now) c.args.fill (c.any.ensures.adds.keeps.literals c.args.fill c.requires.own_fill))

pub select-requires-clause-own_no : goal.select-requires-clause-own_no
select-requires-clause-own_no g c = All-kept c.any.ensures.adds.keeps c.args.word.now c.requires.own_word

pub returns-clause-width : goal.returns-clause-width
returns-clause-width g c =
    let width : length c.as_slice.result.now ≡ length c.args.word.now = ap length (c.as_slice.ensures ∙ c.in_ok-filled.ensures) ∙ length-replicate (length c.args.word.now) c.args.fill in
    IfOk-weaker c.select.result _ _ (λ filled known. known ∙ width) c.select.ensures.width

pub returns-clause-values : goal.returns-clause-values
returns-clause-values g c =
    let m = g.C.State in
    IfOk-weaker c.select.result _ _ (λ filled known inputs admitted.
    let keeps = c.any.ensures.adds.keeps in
    let now_admitted = keeps.admitted inputs admitted in
    let fill_kept = keeps.values inputs c.args.fill admitted c.requires.own_fill in
    let word_kept = map-kept keeps inputs admitted c.args.word.now c.requires.own_word in
    rw (c.as_slice.ensures, c.in_ok-filled.ensures, c.in_ok-is_far.ensures.value inputs admitted, map-replicate (m.value c.any.new.c inputs) (length c.args.word.now) c.args.fill, fill_kept, word_kept) at (known inputs now_admitted))
    c.select.ensures.values

pub returns-clause-adds : goal.returns-clause-adds
returns-clause-adds g c =
    let width : length c.as_slice.result.now ≡ length c.args.word.now = ap length (c.as_slice.ensures ∙ c.in_ok-filled.ensures) ∙ length-replicate (length c.args.word.now) c.args.fill in
    Adds-weaken (Adds-trans c.any.ensures.adds c.select.ensures.adds) (omega arith)
