use Rattle.trimmed_logs.proofs.Common.{[], ◌∷◌, length, refl, sym, subst, arith, length-append, Contains, All-push, slice_get_read, Step, clauses_of_steps}
use Rattle.trimmed_logs.proofs.Clauses.{clause_stands}
use Rattle.trimmed_logs.proofs.renumbered.renumbered.Goals as goal

pub loop-step-preserved : goal.loop-step-preserved
loop-step-preserved c =
    let log = c.args.log.now in
    let old = c.in-Some.old.now in
    let steps = c.loop-step.steps in
    let (step, same, pushed) = c.in_ok-push_anew.ensures in
    let found = c.in-Some.ensures.lookup in
    rw pushed record {
      few = omega (arith, length-append steps (step ∷ []), c.loop-step.invariant.few);
      of_log =
          All-push (λ (s : Step). Contains (clauses_of_steps log) s.clause) steps step c.loop-step.invariant.of_log
          (subst (Contains (clauses_of_steps log)) (sym same)
          (clause_stands log c.step-item.result.place old (slice_get_read log (length log) c.step-item.result.place old refl found.3.0 (found.3.1 old))));
    }
