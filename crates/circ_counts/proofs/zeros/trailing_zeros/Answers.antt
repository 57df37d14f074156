use Rattle.circ_counts.proofs.Common.{◌≤◌, ◌+◌, not, length, sym, ap, subst, ◌∙◌, arith, All, prefix_len, IfOk-weaker, Adds-trans, Adds-weaken, count_gates, zeros_gates}
use Rattle.circ_counts.proofs.zeros.trailing_zeros.Goals as goal

pub returns-clause-number : goal.returns-clause-number
returns-clause-number g c =
    let m = g.C.State in
    IfOk-weaker c.count_ones.result _ _ (λ count known inputs admitted.
    known inputs (c.clear_run.ensures.adds.keeps.admitted inputs admitted)
    ∙ c.in_ok-run.ensures.count inputs admitted
    ∙ ap (prefix_len (λ l. not (m.value c.args.c.now inputs l))) c.as_slice.ensures)
    c.count_ones.ensures.number

pub clear_run-requires : goal.clear_run-requires
clear_run-requires g c = subst (All (g.C.State.has_literal c.args.c.now)) (sym c.as_slice.ensures) c.requires

pub returns-in_err-run-clause-adds : goal.returns-in_err-run-clause-adds
returns-in_err-run-clause-adds g c = Adds-weaken c.clear_run.ensures.adds (omega (arith, ap length c.as_slice.ensures))

pub returns-clause-width : goal.returns-clause-width
returns-clause-width g c =
    IfOk-weaker c.count_ones.result _ _ (λ count known. known ∙ c.in_ok-run.ensures.width ∙ ap length c.as_slice.ensures) c.count_ones.ensures.width

pub returns-clause-adds : goal.returns-clause-adds
returns-clause-adds g c =
    let few : length c.as_slice.result.now + count_gates (length c.in_ok-run.run') ≤ zeros_gates (length c.args.a.now) = rw (c.in_ok-run.ensures.width, ap length c.as_slice.ensures) (omega arith) in
    Adds-weaken (Adds-trans c.clear_run.ensures.adds c.count_ones.ensures.adds) few
