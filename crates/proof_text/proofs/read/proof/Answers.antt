use Rattle.proof_text.proofs.Common.{Proofs, Heads, Logs}
use Rattle.proof_text.proofs.Readings.{passes}
use Rattle.proof_text.proofs.LogReadings.{head_in_proof_stops, log_in_proof_stops}
use Rattle.proof_text.proofs.read.proof.Goals as goal

pub returns-in_err-name-clause-stop : goal.returns-in_err-name-clause-stop
returns-in_err-name-clause-stop c = passes c.from_residual.result _ Proofs Heads _ _ _ (head_in_proof_stops c.args.rest.now.now _) c.from_residual.ensures c.in_err-name.ensures.stop

pub returns-in_err-log-clause-stop : goal.returns-in_err-log-clause-stop
returns-in_err-log-clause-stop c =
    passes c.from_residual-in_err-log.result _ Proofs Logs _ _ _ (log_in_proof_stops _ _ c.args.rest.now.now _ _ c.in_ok-name.ensures.ok.0 c.in_ok-name.ensures.ok.1 c.in_ok-name.ensures.ok.2) c.from_residual-in_err-log.ensures c.in_err-log.ensures.stop
