-- Numbers modulo a power of two.
use Rattle.blast_value.proofs.Common.{◌≡◌, ℕ, ◌+◌, ◌-◌, ◌*◌, ◌%◌, ◌^◌, ◌<◌, ◌≤◌, Bool, true, false, nat_lt, nat_le, refl, sym, ◌∙◌, ⊎_elim, arith, pos, negsuc, ◌-ℤ◌, cases_lt, nat_tests, ints, pow_below, mod-eq_of_lt, residue, bit}
use Rattle.ops.specs.Integer as integers
use Rattle.circuits.specs.Word as words
use Rattle.circuits.proofs.Words.{remainder}

-- the two definitions of a signed number agree
pub signed_same : (n a : ℕ) → words.signed n a ≡ integers.signed n a
unfolding integers.signed
signed_same n a =
    ⊎_elim
    (λ (low : a < 2 ^ (n - 1)). let t : nat_lt a (2 ^ (n - 1)) ≡ true = grind arith in let u : nat_le (2 ^ (n - 1)) a ≡ false = grind (arith, nat_tests) in rw (t, u) refl)
    (λ (high : 2 ^ (n - 1) ≤ a). let t : nat_lt a (2 ^ (n - 1)) ≡ false = grind arith in let u : nat_le (2 ^ (n - 1)) a ≡ true = grind (arith, nat_tests) in rw (t, u) refl)
    (cases_lt a (2 ^ (n - 1)))

pub residue-pos : (n a : ℕ) → residue n (pos a) ≡ a % 2 ^ n
unfolding residue
residue-pos n a = refl

-- a negative difference modulo 2 ^ n
pub residue-below : (n a b : ℕ) → b < a → a ≤ 2 ^ n → residue n (pos b -ℤ pos a) ≡ 2 ^ n - (a - b)
unfolding residue
residue-below n a b below fits =
    let k = a - b - 1 in
    let is : pos b -ℤ pos a ≡ negsuc k = omega (arith, ints) in
    let same : k % 2 ^ n ≡ k = mod-eq_of_lt (omega arith) in
    rw (is, same) (omega arith)

pub residue-difference : (n a b : ℕ) → a < 2 ^ n → b < 2 ^ n → (a + (2 ^ n - b)) % 2 ^ n ≡ residue n (pos a -ℤ pos b)
residue-difference n a b below_a below_b =
    ⊎_elim
    (λ (low : a < b). mod-eq_of_lt (omega arith) ∙ sym (residue-below n b a low (omega arith) ∙ omega arith))
    (λ (high : b ≤ a).
    let is : pos a -ℤ pos b ≡ pos (a - b) = omega (arith, ints) in
    sym (rw is (residue-pos n (a - b) ∙ mod-eq_of_lt (omega arith) ∙ remainder (a - b) (2 ^ n) 1 (a + (2 ^ n - b)) (omega arith) (omega arith))))
    (cases_lt a b)

-- a signed number modulo a larger power of 2: its highest bit is repeated above (sign extension)
pub residue-extended : (from to a : ℕ) (top : Bool) → 1 ≤ from → from < to → a < 2 ^ from → top ≡ nat_le (2 ^ (from - 1)) a → a + bit top * (2 ^ to - 2 ^ from) ≡ residue to (integers.signed from a)
residue-extended from to a true some wider below is =
    let larger : 2 ^ from < 2 ^ to = pow_below from to wider in
    rw (← signed_same from a, ← is) (sym (residue-below to (2 ^ from) a below (omega arith) ∙ omega arith))
residue-extended from to a false some wider below is =
    let larger : 2 ^ from < 2 ^ to = pow_below from to wider in
    rw (← signed_same from a, ← is) (sym (residue-pos to a ∙ mod-eq_of_lt (omega arith) ∙ omega arith))

pub extended_by_zeros : (a n : ℕ) → a + bit false * n ≡ a
extended_by_zeros a n = omega arith
