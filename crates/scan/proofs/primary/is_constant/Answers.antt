use Rattle.scan.proofs.Common.{◌≡◌, ℕ, false, eqb, List, [], ◌∷◌, refl, sym, ap, ◌∙◌, list_all, is_digit, begins_with, is_constant}
use Rattle.scan.proofs.primary.is_constant.Goals as goal

constant_behind : (word digits : List ℕ) → word ≡ 67 ∷ digits → is_constant word ≡ list_all is_digit digits
unfolding is_constant
constant_behind word digits e = ap is_constant e

other : (word : List ℕ) → begins_with (λ b. eqb b 67) word ≡ false → is_constant word ≡ false
unfolding is_constant
other [] e = refl
other (b ∷ word) e = rw e refl

pub returns-in-Some : goal.returns-in-Some
returns-in-Some c = c.all_digits.ensures ∙ sym (constant_behind c.args.word.now c.in-Some.digits.now c.in-Some.ensures.some)

pub returns-in-None : goal.returns-in-None
returns-in-None c = sym (other c.args.word.now c.in-None.ensures.none)
