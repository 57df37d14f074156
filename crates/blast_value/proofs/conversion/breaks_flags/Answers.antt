use Rattle.blast_value.proofs.Common.{◌<◌, length, ◌∙◌, arith, IfOk-weaker, breaks_flags, converted, number_of, map-kept, number_below}
use Rattle.blast_value.proofs.Cuts.{cut_breaks}
use Rattle.blast_value.proofs.conversion.breaks_flags.Goals as goal

pub returns-in_ok-wraps_signed-in-Trunc-clause-value : goal.returns-in_ok-wraps_signed-in-Trunc-clause-value
unfolding converted
returns-in_ok-wraps_signed-in-Trunc-clause-value g c =
    let k1 = c.changes.ensures.adds.keeps in
    let k2 = c.changes-in-Trunc.ensures.adds.keeps in
    IfOk-weaker c.or.result _ _ (λ made known inputs admitted.
    let value = g.C.State.value c.args.c.now inputs in
    let at_1 = k1.admitted inputs admitted in
    let at_2 = k2.admitted inputs at_1 in
    let narrower : c.args.width < length c.args.a.now = rw c.in-Trunc.is at c.requires.cast in
    let number = rw c.in-Trunc.is at (c.requires.number inputs admitted) in
    let a_1 = map-kept k1 inputs admitted c.args.a.now c.requires.own_a in
    let cut_1 = map-kept k1 inputs admitted c.args.resized.now c.requires.own_resized in
    let wraps_kept = k2.values inputs c.in_ok-wraps-in-Trunc.wraps at_1 c.in_ok-wraps-in-Trunc.ensures.own in
    rw c.in-Trunc.is
    (cut_breaks c.args.flags (length c.args.a.now) c.args.width (number_of value c.args.a.now) (number_of value c.args.resized.now) _ _ _ (omega arith) narrower (number_below value c.args.a.now) number
    (wraps_kept ∙ c.in_ok-wraps-in-Trunc.ensures.value inputs admitted)
    (rw (a_1, cut_1, c.requires.width_resized) at (c.in_ok-wraps_signed-in-Trunc.ensures.value inputs at_1))
    (known inputs at_2)))
    c.or.ensures.value

pub returns-in-ZExt-clause-value : goal.returns-in-ZExt-clause-value
unfolding breaks_flags
returns-in-ZExt-clause-value g c inputs admitted = rw c.in-ZExt.is (c.sign_where.ensures.value inputs admitted)

pub returns-in-SExt-clause-value : goal.returns-in-SExt-clause-value
unfolding breaks_flags
returns-in-SExt-clause-value g c inputs admitted = rw c.in-SExt.is (c.zero.ensures.value inputs admitted)
