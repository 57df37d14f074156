use Rattle.proof_text.proofs.Common.{most_variable, Literals, Numbers}
use Rattle.proof_text.proofs.Decodings.{no_digit_32}
use Rattle.proof_text.proofs.Readings.{passes}
use Rattle.proof_text.proofs.StepReadings.{literal_stops}
use Rattle.proof_text.proofs.clause.literal.Goals as goal

pub invariant_of-form-clause-no_digits : goal.invariant_of-form-clause-no_digits
invariant_of-form-clause-no_digits c = (no_digit_32, no_digit_32)

pub returns-in_err-variable-clause-stop : goal.returns-in_err-variable-clause-stop
returns-in_err-variable-clause-stop c =
    passes c.from_residual.result _ Literals (Numbers 1 most_variable 32 32) _ _ _ (literal_stops c.takes-negated.result c.args.rest.now.now c.takes-negated.new.rest.now _ c.takes-negated.ensures) c.from_residual.ensures c.in_err-variable.ensures.stop
