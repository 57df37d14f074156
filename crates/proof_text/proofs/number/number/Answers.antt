use Rattle.proof_text.proofs.NumberReadings.{number_ends, number_stops, longer_so_far}
use Rattle.proof_text.proofs.Readings.{no_bytes, first_byte}
use Rattle.proof_text.proofs.number.number.Goals as goal

pub returns-in_default-rest-clause-stop : goal.returns-in_default-rest-clause-stop
returns-in_default-rest-clause-stop c =
    let form = c.args.form in
    number_ends form.least form.most form.ends.0 form.ends.1 c.loop-rest.value _ c.loop-rest.rest.now form.no_digits.0 form.no_digits.1 c.loop-rest.invariant
    (no_bytes c.loop-rest.rest.now c.in_default-rest.len_below)

pub returns-in_default-longer-clause-stop : goal.returns-in_default-longer-clause-stop
returns-in_default-longer-clause-stop c =
    let form = c.args.form in
    number_stops form.least form.most form.ends.0 form.ends.1 c.loop-rest.value _ _ c.loop-rest.rest.now _ form.no_digits.0 form.no_digits.1 c.loop-rest.invariant
    (first_byte c.loop-rest.rest.now _ c.in-len1-up.len_at_least) c.if-byte-form.false c.if-byte-form-2.false c.in_default-longer.ensures.none

pub loop-rest-preserved : goal.loop-rest-preserved
loop-rest-preserved c =
    let form = c.args.form in
    longer_so_far form.least form.most c.loop-rest.value _ c.in-Some-longer.more _ c.loop-rest.rest.now _ form.low c.loop-rest.invariant
    (first_byte c.loop-rest.rest.now _ c.in-len1-up.len_at_least) c.in-Some-longer.ensures.some
