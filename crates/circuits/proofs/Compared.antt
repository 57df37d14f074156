-- Words compared bit by bit, from the lowest.
use Rattle.circuits.proofs.Common.{◌≡◌, ℕ, ◌+◌, ◌*◌, ◌^◌, ◌<◌, Bool, true, false, not, ◌&&◌, nat_lt, ◌==◌, if◌then◌else◌, List, map, length, take, get_or, subst, ◌∙◌, arith, nat_tests, length-map, length-take-le, xor, All, Ghosts, Keeps, bit, number}
use Rattle.circuits.proofs.Words.{number-below, number-take_more}
use Rattle.circuits.proofs.Kept.{own_at}

-- the highest bit decides which number is less, where the words differ in it
pub less_step : (m n p : ℕ) (x y : Bool) → m < p → n < p → (if xor x y then y else nat_lt m n) ≡ nat_lt (m + p * bit x) (n + p * bit y)
unfolding mathlib.Core.Bool.xor
less_step m n p true true h k = grind (arith, nat_tests)
less_step m n p true false h k = grind (arith, nat_tests)
less_step m n p false true h k = grind (arith, nat_tests)
less_step m n p false false h k = grind (arith, nat_tests)

pub equal_step : (m n p : ℕ) (x y : Bool) → m < p → n < p → ((m == n) && not (xor x y)) ≡ (m + p * bit x == n + p * bit y)
unfolding mathlib.Core.Bool.xor
equal_step m n p true true h k = grind (arith, nat_tests)
equal_step m n p true false h k = grind (arith, nat_tests)
equal_step m n p false true h k = grind (arith, nat_tests)
equal_step m n p false false h k = grind (arith, nat_tests)

module _ {C L : Type 0} {state : Ghosts C L} {start now : C} (keeps : Keeps state start now) (a b : List L) (own_a : All (state.has_literal start) a) (own_b : All (state.has_literal start) b) (i : ℕ) (in_a : i < length a) (in_b : i < length b) (x y : L) (at_x : x ≡ get_or a i x) (at_y : y ≡ get_or b i y) (inputs : List Bool) (admitted : state.admits start inputs) where
  below_a : number (map (state.value start inputs) (take i a)) < 2 ^ i
  below_a = subst (λ n. number (map (state.value start inputs) (take i a)) < 2 ^ n) (length-map (take i a) (state.value start inputs) ∙ length-take-le i a (omega arith)) (number-below (map (state.value start inputs) (take i a)))

  below_b : number (map (state.value start inputs) (take i b)) < 2 ^ i
  below_b = subst (λ n. number (map (state.value start inputs) (take i b)) < 2 ^ n) (length-map (take i b) (state.value start inputs) ∙ length-take-le i b (omega arith)) (number-below (map (state.value start inputs) (take i b)))

  pub less_more : (low high : Bool) → low ≡ nat_lt (number (map (state.value start inputs) (take i a))) (number (map (state.value start inputs) (take i b))) → high ≡ (if xor (state.value now inputs x) (state.value now inputs y) then state.value now inputs y else low) → high ≡ nat_lt (number (map (state.value start inputs) (take (i + 1) a))) (number (map (state.value start inputs) (take (i + 1) b)))
  less_more low high before high_is =
      let x_kept = keeps.values inputs x admitted (own_at (state.has_literal start) a i x own_a in_a at_x) in
      let y_kept = keeps.values inputs y admitted (own_at (state.has_literal start) b i y own_b in_b at_y) in
      rw (high_is, before, x_kept, y_kept, number-take_more (state.value start inputs) a i x in_a at_x, number-take_more (state.value start inputs) b i y in_b at_y)
      (less_step _ _ (2 ^ i) (state.value start inputs x) (state.value start inputs y) below_a below_b)

  pub equal_more : (low high : Bool) → low ≡ (number (map (state.value start inputs) (take i a)) == number (map (state.value start inputs) (take i b))) → high ≡ (low && not (xor (state.value now inputs x) (state.value now inputs y))) → high ≡ (number (map (state.value start inputs) (take (i + 1) a)) == number (map (state.value start inputs) (take (i + 1) b)))
  equal_more low high before high_is =
      let x_kept = keeps.values inputs x admitted (own_at (state.has_literal start) a i x own_a in_a at_x) in
      let y_kept = keeps.values inputs y admitted (own_at (state.has_literal start) b i y own_b in_b at_y) in
      rw (high_is, before, x_kept, y_kept, number-take_more (state.value start inputs) a i x in_a at_x, number-take_more (state.value start inputs) b i y in_b at_y)
      (equal_step _ _ (2 ^ i) (state.value start inputs x) (state.value start inputs y) below_a below_b)
