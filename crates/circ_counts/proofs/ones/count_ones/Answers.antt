use Rattle.circ_counts.proofs.Common.{◌≡◌, ◌≤◌, ◌+◌, ◌*◌, length, map, sym, ap, subst, ◌∙◌, arith, All, filter, IfOk-weaker, length-replicate, All-replicate, Adds, adder_gates, stages, number, number_of, bit, Adds-none, Adds-weaken, number-all_zero, count_gates}
use Rattle.circ_counts.proofs.Counted.{digits-hold, digits-few}
use Rattle.circ_counts.proofs.ones.count_ones.Goals as goal

pub counted-requires-clause-room : goal.counted-requires-clause-room
counted-requires-clause-room g c =
    let digits : c.digit_count.result ≡ stages (length c.args.a.now + 1) = c.digit_count.ensures ∙ ap (λ n. stages (n + 1)) c.len.ensures in
    let width : length c.as_slice-2.result.now ≡ stages (length c.args.a.now + 1) = ap length (c.as_slice-2.ensures ∙ c.in_ok-zeros.ensures) ∙ length-replicate c.digit_count.result c.zero-zero.result ∙ digits in
    rw (ap length c.as_slice.ensures, width) (digits-hold (length c.args.a.now))

pub counted-requires-clause-zeros : goal.counted-requires-clause-zeros
counted-requires-clause-zeros g c inputs admitted =
    let value = g.C.State.value c.args.c.now inputs in
    ap (λ w. number (map value w)) (c.as_slice-2.ensures ∙ c.in_ok-zeros.ensures) ∙ number-all_zero value c.digit_count.result c.zero-zero.result (c.zero-zero.ensures.value inputs admitted)

pub extend-requires-clause-wider : goal.extend-requires-clause-wider
extend-requires-clause-wider g c =
    let digits : c.digit_count.result ≡ stages (length c.args.a.now + 1) = c.digit_count.ensures ∙ ap (λ n. stages (n + 1)) c.len.ensures in
    let width : length c.in_ok-count.count ≡ stages (length c.args.a.now + 1) = c.in_ok-count.ensures.width ∙ ap length (c.as_slice-2.ensures ∙ c.in_ok-zeros.ensures) ∙ length-replicate c.digit_count.result c.zero-zero.result ∙ digits in
    rw (width, c.len-2.ensures) (digits-few (length c.args.a.now))

pub returns-clause-number : goal.returns-clause-number
returns-clause-number g c =
    let m = g.C.State in
    let kept = c.counted.ensures.adds.keeps in
    IfOk-weaker c.extend.result _ _ (λ made known inputs admitted.
    let z : bit (m.value c.counted.new.c inputs c.zero-zero.result) ≡ 0 = ap bit (kept.values inputs _ admitted c.zero-zero.ensures.own ∙ c.zero-zero.ensures.value inputs admitted) in
    let e = rw z at (known inputs (kept.admitted inputs admitted)) in
    let first : number_of (m.value c.extend.new.c inputs) made ≡ number_of (m.value c.counted.new.c inputs) c.in_ok-count.count = omega (arith, e) in
    first ∙ c.in_ok-count.ensures.number inputs admitted ∙ ap (λ w. length (filter (m.value c.args.c.now inputs) w)) c.as_slice.ensures)
    c.extend.ensures.number

pub counted-requires-clause-own_a : goal.counted-requires-clause-own_a
counted-requires-clause-own_a g c = subst (All (g.C.State.has_literal c.args.c.now)) (sym c.as_slice.ensures) c.requires

pub counted-requires-clause-own_zeros : goal.counted-requires-clause-own_zeros
counted-requires-clause-own_zeros g c =
    let P = g.C.State.has_literal c.args.c.now in
    subst (All P) (sym (c.as_slice-2.ensures ∙ c.in_ok-zeros.ensures)) (All-replicate P c.digit_count.result c.zero-zero.result c.zero-zero.ensures.own)

pub extend-requires-clause-own_top : goal.extend-requires-clause-own_top
extend-requires-clause-own_top g c = c.counted.ensures.adds.keeps.literals c.zero-zero.result c.zero-zero.ensures.own

pub returns-in_err-zeros-clause-adds : goal.returns-in_err-zeros-clause-adds
returns-in_err-zeros-clause-adds g c = Adds-none

pub returns-in_err-count-clause-adds : goal.returns-in_err-count-clause-adds
returns-in_err-count-clause-adds g c =
    let width : length c.as_slice-2.result.now ≡ stages (length c.args.a.now + 1) = ap length (c.as_slice-2.ensures ∙ c.in_ok-zeros.ensures) ∙ length-replicate c.digit_count.result c.zero-zero.result ∙ c.digit_count.ensures ∙ ap (λ n. stages (n + 1)) c.len.ensures in
    let few : adder_gates (length c.as_slice-2.result.now) * length c.as_slice.result.now ≤ count_gates (length c.args.a.now) = rw (width, ap length c.as_slice.ensures) (omega arith) in
    Adds-weaken c.counted.ensures.adds few

pub returns-clause-width : goal.returns-clause-width
returns-clause-width g c = IfOk-weaker c.extend.result _ _ (λ made known. known ∙ c.len-2.ensures) c.extend.ensures.width

pub returns-clause-adds : goal.returns-clause-adds
returns-clause-adds g c =
    let width : length c.as_slice-2.result.now ≡ stages (length c.args.a.now + 1) = ap length (c.as_slice-2.ensures ∙ c.in_ok-zeros.ensures) ∙ length-replicate c.digit_count.result c.zero-zero.result ∙ c.digit_count.ensures ∙ ap (λ n. stages (n + 1)) c.len.ensures in
    let few : adder_gates (length c.as_slice-2.result.now) * length c.as_slice.result.now ≤ count_gates (length c.args.a.now) = rw (width, ap length c.as_slice.ensures) (omega arith) in
    subst (λ now. Adds g.C.State c.args.c.now now (count_gates (length c.args.a.now))) (sym c.extend.ensures.same) (Adds-weaken c.counted.ensures.adds few)
