use Rattle.precond.proofs.Common.{◌≡◌, ℕ, Bool, true, false, refl, ap, ◌∙◌, ◌==◌, if◌then◌else◌, Number, comparison, holds, Pred, Value, Poison, Bits, compares}
use Rattle.precond.proofs.formula.compares.Goals as goal

-- the value is the number 1
is_one : Value → Bool
is_one Poison = false
is_one (Bits a) = a.number == 1

truth_is_one : (t : Bool) → ((if t then 1 else 0) == 1) ≡ t
truth_is_one true = refl
truth_is_one false = refl

compared : (pred : Pred) (a : Number) (b v : Value) → v ≡ comparison pred false a.width (Bits a) b → is_one v ≡ compares pred (Bits a) b
unfolding comparison is_one
compared pred a Poison v is = rw is refl
compared pred a (Bits b) v is = rw is (truth_is_one (holds pred a.width a.number b.number))

decided : (pred : Pred) (n : Number) (a b v : Value) (N : ℕ) → a ≡ Bits n → N ≡ n.width → v ≡ comparison pred false N (Bits n) b → is_one v ≡ compares pred a b
decided pred n a b v N are width is = rw are (compared pred n b v (rw width at is))

pub returns-in-Poison : goal.returns-in-Poison
unfolding is_one
returns-in-Poison c = decided c.args.pred c.in-Bits.left c.args.a c.args.b Poison c.width.result c.in-Bits.is c.width.ensures c.in-Poison.ensures.value

pub returns-in-Bits-compare : goal.returns-in-Bits-compare
unfolding is_one
returns-in-Bits-compare c =
    ap (λ n. n == 1) c.number.ensures.number
    ∙ decided c.args.pred c.in-Bits.left c.args.a c.args.b (Bits c.in-Bits-compare.truth) c.width.result c.in-Bits.is c.width.ensures c.in-Bits-compare.ensures.value
