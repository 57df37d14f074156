use Rattle.proof_text.proofs.Common.{◌≡◌, List, [], ◌∷◌, ◌++◌, ℕ, sym, subst, rules, widths_text, AreWidths, most_number, Lists, Numbers}
use Rattle.proof_text.proofs.Decodings.{no_digit_32}
use Rattle.proof_text.proofs.Readings.{passes}
use Rattle.proof_text.proofs.StepReadings.{list_stops, list_done}
use Rattle.proof_text.proofs.numbers.numbers.Goals as goal

pub invariant_of-form-clause-no_digits : goal.invariant_of-form-clause-no_digits
invariant_of-form-clause-no_digits c = (no_digit_32, c.requires.no_digit)

pub returns-in_err-value-clause-stop : goal.returns-in_err-value-clause-stop
returns-in_err-value-clause-stop c =
    passes c.from_residual.result _ (Lists c.args.end) (Numbers 0 most_number 32 c.args.end) _ _ _ (list_stops c.args.end c.args.rest.now.now c.loop-numbers.rest.now _ _ c.requires.no_digit c.requires.no_blank c.loop-numbers.invariant) c.from_residual.ensures c.in_err-value.ensures.stop

pub returns-then-last-end-clause-ok : goal.returns-then-last-end-clause-ok
returns-then-last-end-clause-ok c =
    let is : c.push.new.self ≡ c.loop-numbers.numbers ++ c.in_ok-value.value ∷ [] = search rules in
    subst (λ (ns : List ℕ). AreWidths ns × (c.args.rest.now.now ≡ widths_text ns ++ c.args.end ∷ c.number.new.rest.now)) (sym is)
    (list_done c.args.end c.in_ok-value.value c.in_ok-value.last c.args.rest.now.now c.loop-numbers.rest.now c.number.new.rest.now c.loop-numbers.numbers c.loop-numbers.invariant c.in_ok-value.ensures.ok c.if-last-end.true)
