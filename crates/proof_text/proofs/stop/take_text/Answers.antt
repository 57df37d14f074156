use Rattle.proof_text.proofs.Common.{Fixed, refl}
use Rattle.proof_text.proofs.Readings.{pass, text_stops_in}
use Rattle.proof_text.proofs.stop.take_text.Goals as goal

pub returns-in_err-take_byte-clause-stop : goal.returns-in_err-take_byte-clause-stop
returns-in_err-take_byte-clause-stop c =
    pass c.from_residual.result c.in_err-take_byte.field-0.0 (Fixed c.args.wanted.now) c.args.rest.now.now _ c.from_residual.ensures
    (text_stops_in c.args.wanted.now c.loop-byte.byte-index 0 _ c.in_err-take_byte.field-0.0 c.args.rest.now.now c.loop-byte.rest.now c.take_byte.new.rest.now c.loop-byte-test.true refl c.loop-byte.invariant c.in_err-take_byte.ensures.stop)
