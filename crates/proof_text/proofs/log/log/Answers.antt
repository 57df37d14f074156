use Rattle.proof_text.proofs.Common.{◌≡◌, ◌<◌, ◌≤◌, List, [], ◌∷◌, ◌++◌, length, sym, subst, rules, arith, Step, Logs, Steps}
use Rattle.proof_text.proofs.Readings.{pass, passes}
use Rattle.proof_text.proofs.LogReadings.{LogSoFar, log_more, log_done, step_in_log_stops}
use Rattle.proof_text.proofs.log.log.Goals as goal

pub returns-in_err-count-clause-stop : goal.returns-in_err-count-clause-stop
returns-in_err-count-clause-stop c = pass c.from_residual.result _ Logs _ _ c.from_residual.ensures c.in_err-count.ensures.stop

pub returns-in_err-step-clause-stop : goal.returns-in_err-step-clause-stop
returns-in_err-step-clause-stop c =
    let few : length c.loop-alloc.log < c.in_ok-count.count = omega (arith, c.len.ensures, c.loop-alloc-test.true) in
    passes c.from_residual-in_err-step.result _ Logs Steps _ _ _ (step_in_log_stops c.in_ok-count.count c.args.rest.now.now c.loop-alloc.rest.now _ c.loop-alloc.log c.loop-alloc.invariant few) c.from_residual-in_err-step.ensures c.in_err-step.ensures.stop

pub loop-alloc-preserved : goal.loop-alloc-preserved
loop-alloc-preserved c =
    let few : length c.loop-alloc.log < c.in_ok-count.count = omega (arith, c.len.ensures, c.loop-alloc-test.true) in
    let is : c.push.new.self ≡ c.loop-alloc.log ++ c.in_ok-step.field-0 ∷ [] = search rules in
    subst (λ (steps : List Step). LogSoFar c.in_ok-count.count c.args.rest.now.now c.step.new.rest.now steps) (sym is)
    (log_more c.in_ok-count.count c.args.rest.now.now c.loop-alloc.rest.now c.step.new.rest.now c.loop-alloc.log c.in_ok-step.field-0 c.loop-alloc.invariant few c.in_ok-step.ensures.ok)

pub returns-clause-ok : goal.returns-clause-ok
returns-clause-ok c =
    let enough : c.in_ok-count.count ≤ length c.loop-alloc.log = search rules in
    log_done c.in_ok-count.count c.args.rest.now.now c.loop-alloc.rest.now c.loop-alloc.log c.loop-alloc.invariant enough c.requires.short
