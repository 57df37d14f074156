use Rattle.circ_counts.proofs.Common.{◌≡◌, not, reverse, ap, ◌∙◌, prefix_len, IfOk-weaker}
use Rattle.circ_counts.proofs.zeros.leading_zeros.Goals as goal

pub returns-clause-number : goal.returns-clause-number
returns-clause-number g c =
    let m = g.C.State in
    let turned : c.deref.result.now ≡ reverse c.args.a.now = c.deref.ensures.value ∙ c.reverse.ensures.items ∙ ap reverse (c.in_ok-highest_first.ensures.items ∙ c.as_slice.ensures) in
    IfOk-weaker c.count_ones.result _ _ (λ count known inputs admitted.
    known inputs (c.clear_run.ensures.adds.keeps.admitted inputs admitted)
    ∙ c.in_ok-run.ensures.count inputs admitted
    ∙ ap (prefix_len (λ l. not (m.value c.args.c.now inputs l))) turned)
    c.count_ones.ensures.number
