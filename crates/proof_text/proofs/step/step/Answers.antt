use Rattle.proof_text.proofs.Common.{Steps, Clauses, Hints}
use Rattle.proof_text.proofs.Readings.{passes}
use Rattle.proof_text.proofs.StepReadings.{step_stops, step_stops_later}
use Rattle.proof_text.proofs.step.step.Goals as goal

pub returns-in_err-clause-clause-stop : goal.returns-in_err-clause-clause-stop
returns-in_err-clause-clause-stop c = passes c.from_residual.result _ Steps Clauses _ _ _ (step_stops c.args.rest.now.now _) c.from_residual.ensures c.in_err-clause.ensures.stop

pub returns-in_err-hints-clause-stop : goal.returns-in_err-hints-clause-stop
returns-in_err-hints-clause-stop c =
    passes c.from_residual-in_err-hints.result _ Steps Hints _ _ _ (step_stops_later _ c.args.rest.now.now _ _ c.in_ok-clause.ensures.ok.0 c.in_ok-clause.ensures.ok.1) c.from_residual-in_err-hints.ensures c.in_err-hints.ensures.stop
