use Rattle.circuits.proofs.Common.{◌≡◌, ◌-◌, min, length, take, drop, length-drop, sym, ap, subst, ◌∙◌, arith, take_all, All-take, All-drop, IfOk-weaker, All, stages}
use Rattle.circuits.proofs.Kept.{All-kept, map-kept, Adds-trans, Adds-weaken}
use Rattle.circuits.proofs.Stages.{stage_reach, near_few, near_gates, whole_gates}
use Rattle.circuits.proofs.Words.{any-number}
use Rattle.circuits.proofs.Shifts.{moved_end}
use Rattle.circuits.proofs.shift.shift.Goals as goal

pub returns-clause-values : goal.returns-clause-values
returns-clause-values g c =
    let m = g.C.State in
    let keeps = c.by_stages.ensures.adds.keeps in
    let amount = c.args.amount.now in
    let low = c.min-low.result in
    let low_is : low ≡ min (stages (length c.args.a.now)) (length amount) = rw (c.stage_count.ensures, c.len.ensures, c.as_slice-amount.ensures) at c.min-low.ensures in
    IfOk-weaker c.filled_where_any.result _ _ (λ shifted known inputs admitted.
    let fill_kept = keeps.values inputs c.args.fill admitted c.requires.own_fill in
    let far_kept = map-kept keeps inputs admitted (drop low amount) (All-drop (m.has_literal c.args.c.now) low amount c.requires.own_amount) in
    let far_is : take (length amount - low) (drop low amount) ≡ drop low amount = take_all (length amount - low) (drop low amount) (omega (arith, length-drop low amount)) in
    let near_is = rw (c.as_slice.ensures, c.as_slice-amount.ensures) at (c.in_ok-near.ensures.values inputs admitted) in
    let bits = rw (c.as_slice-amount.ensures, far_is, c.as_slice-2.ensures, any-number (m.value c.by_stages.new.c inputs) (drop low amount), far_kept, fill_kept, near_is, c.in_ok-near.ensures.width, c.as_slice.ensures) at (known inputs (keeps.admitted inputs admitted)) in
    moved_end c.args.direction (m.value c.args.c.now inputs) c.args.a.now amount c.args.fill low _ (stage_reach (length c.args.a.now) low amount low_is) bits)
    c.filled_where_any.ensures.values

pub by_stages-requires-clause-few : goal.by_stages-requires-clause-few
by_stages-requires-clause-few g c =
    let low_is : c.min-low.result ≡ min (stages (length c.args.a.now)) (length c.as_slice-amount.result.now) = rw (c.stage_count.ensures, c.len.ensures) at c.min-low.ensures in
    rw c.as_slice.ensures (near_few (length c.args.a.now) c.min-low.result c.as_slice-amount.result.now low_is)

pub by_stages-requires-clause-own_a : goal.by_stages-requires-clause-own_a
by_stages-requires-clause-own_a g c = subst (All (g.C.State.has_literal c.args.c.now)) (sym c.as_slice.ensures) c.requires.own_a

pub by_stages-requires-clause-own_amount : goal.by_stages-requires-clause-own_amount
by_stages-requires-clause-own_amount g c =
    let P = g.C.State.has_literal c.args.c.now in
    All-take P c.min-low.result c.as_slice-amount.result.now (subst (All P) (sym c.as_slice-amount.ensures) c.requires.own_amount)

pub filled_where_any-requires-clause-own_far : goal.filled_where_any-requires-clause-own_far
filled_where_any-requires-clause-own_far g c =
    let P = g.C.State.has_literal c.args.c.now in
    let amount = c.as_slice-amount.result.now in
    let low = c.min-low.result in
    let own : All P amount = subst (All P) (sym c.as_slice-amount.ensures) c.requires.own_amount in
    All-kept c.by_stages.ensures.adds.keeps (take (length amount - low) (drop low amount)) (All-take P (length amount - low) (drop low amount) (All-drop P low amount own))

pub filled_where_any-requires-clause-own_fill : goal.filled_where_any-requires-clause-own_fill
filled_where_any-requires-clause-own_fill g c = c.by_stages.ensures.adds.keeps.literals c.args.fill c.requires.own_fill

pub filled_where_any-requires-clause-own_word : goal.filled_where_any-requires-clause-own_word
filled_where_any-requires-clause-own_word g c = subst (All (g.C.State.has_literal c.by_stages.new.c)) (sym c.as_slice-2.ensures) c.in_ok-near.ensures.own

pub returns-clause-width : goal.returns-clause-width
returns-clause-width g c =
    IfOk-weaker c.filled_where_any.result _ _ (λ shifted known. known ∙ ap length c.as_slice-2.ensures ∙ c.in_ok-near.ensures.width ∙ ap length c.as_slice.ensures)
    c.filled_where_any.ensures.width

pub returns-in_err-near-clause-adds : goal.returns-in_err-near-clause-adds
returns-in_err-near-clause-adds g c =
    let low_is : c.min-low.result ≡ min (stages (length c.args.a.now)) (length c.as_slice-amount.result.now) = rw (c.stage_count.ensures, c.len.ensures) at c.min-low.ensures in
    let few = near_gates (length c.args.a.now) c.min-low.result c.as_slice-amount.result.now low_is in
    Adds-weaken c.by_stages.ensures.adds (rw (c.as_slice.ensures, ← c.as_slice-amount.ensures) few)

pub returns-clause-adds : goal.returns-clause-adds
returns-clause-adds g c =
    let low_is : c.min-low.result ≡ min (stages (length c.args.a.now)) (length c.as_slice-amount.result.now) = rw (c.stage_count.ensures, c.len.ensures) at c.min-low.ensures in
    let near : length c.as_slice-2.result.now ≡ length c.args.a.now = ap length c.as_slice-2.ensures ∙ c.in_ok-near.ensures.width ∙ ap length c.as_slice.ensures in
    let few = whole_gates (length c.args.a.now) c.min-low.result c.as_slice-amount.result.now low_is in
    Adds-weaken (Adds-trans c.by_stages.ensures.adds c.filled_where_any.ensures.adds) (rw (c.as_slice.ensures, near, ← c.as_slice-amount.ensures) few)
