use Rattle.scan.proofs.Common.{◌≡◌, ℕ, Bool, false, eqb, ◌&&◌, List, [], ◌∷◌, refl, sym, ap, ◌∙◌, list_all, is_digit, begins_with, is_choice}
use Rattle.scan.proofs.primary.is_choice.Goals as goal

choice_behind : (word digits : List ℕ) → word ≡ 116 ∷ digits → is_choice word ≡ (begins_with is_digit digits && list_all is_digit digits)
unfolding is_choice
choice_behind word digits e = ap is_choice e

other : (word : List ℕ) → begins_with (λ b. eqb b 116) word ≡ false → is_choice word ≡ false
unfolding is_choice
other [] e = refl
other (b ∷ word) e = rw e refl

pub returns-then-begins_digit : goal.returns-then-begins_digit
returns-then-begins_digit c = c.all_digits.ensures ∙ sym (choice_behind c.args.word.now c.in-Some.digits.now c.in-Some.ensures.some
    ∙ ap (λ (b : Bool). b && list_all is_digit c.in-Some.digits.now) (sym c.begins_digit.ensures ∙ c.if-begins_digit.true))

pub returns-else-begins_digit : goal.returns-else-begins_digit
returns-else-begins_digit c = c.if-begins_digit.false ∙ sym (choice_behind c.args.word.now c.in-Some.digits.now c.in-Some.ensures.some
    ∙ ap (λ (b : Bool). b && list_all is_digit c.in-Some.digits.now) (sym c.begins_digit.ensures ∙ c.if-begins_digit.false))

pub returns-in-None : goal.returns-in-None
returns-in-None c = sym (other c.args.word.now c.in-None.ensures.none)
