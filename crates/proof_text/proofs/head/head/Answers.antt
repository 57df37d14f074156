use Rattle.proof_text.proofs.Common.{◌≡◌, [], ◌∷◌, codes, None, rules, Heads, Fixed}
use Rattle.proof_text.proofs.Readings.{passes}
use Rattle.proof_text.proofs.HeadReadings.{word_stops, other_line, feed_stops, none_is}
use Rattle.proof_text.proofs.head.head.Goals as goal

pub returns-in_err-take_text-clause-stop : goal.returns-in_err-take_text-clause-stop
returns-in_err-take_text-clause-stop c =
    passes c.from_residual.result _ Heads (Fixed (codes "proof ")) _ _ _ (word_stops c.args.rest.now.now _) c.from_residual.ensures c.in_err-take_text.ensures.stop

pub returns-in_default-clause-stop : goal.returns-in_default-clause-stop
returns-in_default-clause-stop c =
    let none : c.in_ok-read.field-0 ≡ None = search rules in
    other_line c.args.rest.now.now _ c.take_line-line.result.now c.take_line-line.new.rest.now c.in_ok-take_text.ensures.ok c.take_line-line.ensures.parts c.take_line-line.ensures.name c.take_line-line.ensures.ends (none_is _ _ _ none c.in_ok-read.ensures)

pub returns-in_err-take_byte-clause-stop : goal.returns-in_err-take_byte-clause-stop
returns-in_err-take_byte-clause-stop c =
    passes c.from_residual-in_err-take_byte.result _ Heads (Fixed (10 ∷ [])) _ _ _
    (feed_stops c.args.rest.now.now _ _ c.take_line-line.new.rest.now _ c.in_ok-take_text.ensures.ok c.take_line-line.ensures.parts c.take_line-line.ensures.name c.take_line-line.ensures.ends)
    c.from_residual-in_err-take_byte.ensures c.in_err-take_byte.ensures.stop
