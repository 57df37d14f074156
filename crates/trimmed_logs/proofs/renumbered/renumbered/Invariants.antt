use Rattle.trimmed_logs.proofs.Common.{◌≤◌, length, All, Contains, clauses_of_steps}
use Rattle.trimmed_logs.proofs.renumbered.renumbered.Given as goal

abbrev pub invariant-loop-step : goal.invariant-loop-step
invariant-loop-step l =
    record {
      few : length l.steps ≤ l.step-index;
      of_log : All (λ step. Contains (clauses_of_steps l.log) step.clause) l.steps;
    }
