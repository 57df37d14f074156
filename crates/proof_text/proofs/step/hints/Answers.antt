use Rattle.proof_text.proofs.Common.{◌≡◌, false, [], ◌∷◌, rules, Hints, Fixed, Takes}
use Rattle.proof_text.proofs.Decodings.{no_digit_10}
use Rattle.proof_text.proofs.Readings.{passes}
use Rattle.proof_text.proofs.StepReadings.{blank_stops, hints_ok, hints_err}
use Rattle.proof_text.proofs.step.hints.Goals as goal

pub returns-in_err-take_byte-clause-stop : goal.returns-in_err-take_byte-clause-stop
returns-in_err-take_byte-clause-stop c =
    let t : Takes 10 false c.args.rest.now.now c.takes.new.rest.now = search rules in
    passes c.from_residual.result _ Hints (Fixed (32 ∷ [])) _ _ _ (blank_stops c.args.rest.now.now c.takes.new.rest.now _ t.0 t.1) c.from_residual.ensures c.in_err-take_byte.ensures.stop

pub numbers-requires-clause-no_digit : goal.numbers-requires-clause-no_digit
numbers-requires-clause-no_digit c = no_digit_10

pub returns-clause-ok : goal.returns-clause-ok
returns-clause-ok c =
    let t : Takes 10 false c.args.rest.now.now c.takes.new.rest.now = search rules in
    let e : c.takes.new.rest.now ≡ 32 ∷ c.take_byte.new.rest.now = search rules in
    hints_ok c.numbers.result c.args.rest.now.now c.takes.new.rest.now c.take_byte.new.rest.now _ t.0 e c.numbers.ensures.ok

pub returns-clause-stop : goal.returns-clause-stop
returns-clause-stop c =
    let t : Takes 10 false c.args.rest.now.now c.takes.new.rest.now = search rules in
    let e : c.takes.new.rest.now ≡ 32 ∷ c.take_byte.new.rest.now = search rules in
    hints_err c.numbers.result c.args.rest.now.now c.takes.new.rest.now c.take_byte.new.rest.now _ t.0 e c.numbers.ensures.stop
