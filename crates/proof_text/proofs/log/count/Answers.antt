use Rattle.proof_text.proofs.Common.{◌^◌, ◌-◌, codes, Logs, Fixed, Numbers}
use Rattle.proof_text.proofs.Decodings.{no_digit_10}
use Rattle.proof_text.proofs.Readings.{passes}
use Rattle.proof_text.proofs.LogReadings.{log_stops, count_stops}
use Rattle.proof_text.proofs.log.count.Goals as goal

pub returns-in_err-take_text-clause-stop : goal.returns-in_err-take_text-clause-stop
returns-in_err-take_text-clause-stop c =
    passes c.from_residual.result _ Logs (Fixed (codes "log ")) _ _ _ (log_stops c.args.rest.now.now _) c.from_residual.ensures c.in_err-take_text.ensures.stop

pub invariant_of-form-clause-no_digits : goal.invariant_of-form-clause-no_digits
invariant_of-form-clause-no_digits c = (no_digit_10, no_digit_10)

pub returns-in_err-count-clause-stop : goal.returns-in_err-count-clause-stop
returns-in_err-count-clause-stop c =
    passes c.from_residual-in_err-count.result _ Logs (Numbers 0 (2 ^ 64 - 1) 10 10) _ _ _ (count_stops c.args.rest.now.now _ _ c.in_ok-take_text.ensures.ok) c.from_residual-in_err-count.ensures c.in_err-count.ensures.stop
