-- Numbers that are truncated: extending what is left gives the number again exactly where it fits the smaller width.
use Rattle.blast_value.proofs.Common.{◌≡◌, ◌≢◌, ◌==◌, ℕ, ◌+◌, ◌-◌, ◌*◌, ◌%◌, ◌^◌, ◌<◌, ◌≤◌, Bool, true, false, not, ◌&&◌, ◌||◌, nat_lt, nat_le, refl, sym, ap, ◌∙◌, ⊎_elim, arith, pos, neg_ℤ, ◌-ℤ◌, int_le, int_lt, cases_lt, eq-eqb, ne_eqb, nat_tests, ints, pow_pos, pow-add, mod-eq_of_lt, mod-lt, mul-le-mul_left, Flags, Trunc, signed, residue, fits_signed, breaks_flags, pow_doubled, bit, extended}
use Rattle.circuits.proofs.Words.{remainder}
use Rattle.blast_value.proofs.Numbers.{residue-extended}

-- a word that is extended has the number, or the signed number, of the shorter word
pub extended_is : (is_signed : Bool) (N M n : ℕ) → 0 < N → N < M → n < 2 ^ N → n + bit (is_signed && nat_le (2 ^ (N - 1)) n) * (2 ^ M - 2 ^ N) ≡ extended is_signed N M n
extended_is false N M n some wider below = omega arith
extended_is true N M n some wider below = residue-extended N M n (nat_le (2 ^ (N - 1)) n) (omega arith) wider below refl

pub cut_unsigned : (to n : ℕ) → not (n % 2 ^ to == n) ≡ nat_le (2 ^ to) n
cut_unsigned to n =
    ⊎_elim
    (λ (low : n < 2 ^ to). let same : (n % 2 ^ to == n) ≡ true = eq-eqb (n % 2 ^ to) n (mod-eq_of_lt low) in let none : nat_le (2 ^ to) n ≡ false = grind (arith, nat_tests) in rw (same, none) refl)
    (λ (high : 2 ^ to ≤ n).
    let below : n % 2 ^ to < 2 ^ to = mod-lt n (pow_pos to) in
    let other : (n % 2 ^ to == n) ≡ false = ne_eqb (n % 2 ^ to) n (λ e. omega arith) in
    let some : nat_le (2 ^ to) n ≡ true = grind (arith, nat_tests) in rw (other, some) refl)
    (cases_lt n (2 ^ to))

-- a number read as signed fits below half the power, and above the power less half
low_fits : (half power n : ℕ) → n < half → (int_le (neg_ℤ (pos half)) (pos n) && int_lt (pos n) (pos half)) ≡ true
low_fits half power n low = grind (arith, ints, nat_tests)

low_fails : (half n : ℕ) → half ≤ n → (int_le (neg_ℤ (pos half)) (pos n) && int_lt (pos n) (pos half)) ≡ false
low_fails half n high = grind (arith, ints, nat_tests)

high_fits : (half power n : ℕ) → n < power → power - n ≤ half → (int_le (neg_ℤ (pos half)) (pos n -ℤ pos power) && int_lt (pos n -ℤ pos power) (pos half)) ≡ true
high_fits half power n below near = grind (arith, ints, nat_tests)

high_fails : (half power n : ℕ) → n < power → half < power - n → (int_le (neg_ℤ (pos half)) (pos n -ℤ pos power) && int_lt (pos n -ℤ pos power) (pos half)) ≡ false
high_fails half power n below far = grind (arith, ints, nat_tests)

-- a truncated number, sign-extended again, is another one where it doesn't fit: r is what is left, and q tells how many
-- more powers the larger range has
again_low : (half power larger q n r : ℕ) → power ≡ 2 * half → larger ≡ power * (q + 1) → 1 ≤ q → r < power → half ≤ n → n + n < larger → r + bit (nat_le half r) * (larger - power) ≢ n
again_low half power larger q n r p l some below high low =
    let room : power * 1 ≤ power * q = mul-le-mul_left power some in
    ⊎_elim
    (λ (small : r < half) e. let t : nat_le half r ≡ false = grind (arith, nat_tests) in let is : r + 0 * (larger - power) ≡ n = rw t at e in omega arith)
    (λ (large : half ≤ r) e. let t : nat_le half r ≡ true = grind (arith, nat_tests) in let is : r + 1 * (larger - power) ≡ n = rw t at e in omega arith)
    (cases_lt r half)

again_high : (half power larger q n r : ℕ) → power ≡ 2 * half → larger ≡ power * (q + 1) → 1 ≤ q → r < power → n < larger → larger ≤ n + n → half < larger - n → r + bit (nat_le half r) * (larger - power) ≢ n
again_high half power larger q n r p l some below within high far =
    let room : power * 1 ≤ power * q = mul-le-mul_left power some in
    ⊎_elim
    (λ (small : r < half) e. let t : nat_le half r ≡ false = grind (arith, nat_tests) in let is : r + 0 * (larger - power) ≡ n = rw t at e in omega arith)
    (λ (large : half ≤ r) e. let t : nat_le half r ≡ true = grind (arith, nat_tests) in let is : r + 1 * (larger - power) ≡ n = rw t at e in omega arith)
    (cases_lt r half)

again_same : (half power larger q n : ℕ) → 0 < half → power ≡ 2 * half → larger ≡ power * (q + 1) → n < larger → larger - n ≤ half → n % power + bit (nat_le half (n % power)) * (larger - power) ≡ n
again_same half power larger q n some p l within near =
    let r = power - (larger - n) in
    let is : r ≡ n % power = remainder r power q n (omega arith) (omega arith) in
    let t : nat_le half r ≡ true = grind (arith, nat_tests) in
    rw (← is, t) (omega arith)

module _ (M to n : ℕ) (some : 1 ≤ to) (wider : to < M) (below : n < 2 ^ M) where
  q : ℕ
  q = 2 ^ (M - to) - 1

  halves : 2 ^ to ≡ 2 * 2 ^ (to - 1)
  halves = pow_doubled to some

  larger_halves : 2 ^ M ≡ 2 * 2 ^ (M - 1)
  larger_halves = pow_doubled M (omega arith)

  parts : 2 ^ M ≡ 2 ^ to * (q + 1)
  unfolding q
  parts =
      let whole : to + (M - to) ≡ M = omega arith in
      let one_more : 2 ^ (M - to) ≡ (2 ^ (M - to) - 1) + 1 = omega (arith, pow_pos (M - to)) in
      ap (λ k. 2 ^ k) (sym whole) ∙ pow-add 2 to (M - to) ∙ ap (λ k. 2 ^ to * k) one_more

  more : 1 ≤ q
  unfolding q
  more = omega (arith, pow_doubled (M - to) (omega arith), pow_pos (M - to - 1))

  left : ℕ
  left = n % 2 ^ to

  again : residue M (signed to left) ≡ left + bit (nat_le (2 ^ (to - 1)) left) * (2 ^ M - 2 ^ to)
  unfolding left
  again = sym (residue-extended to M (n % 2 ^ to) (nat_le (2 ^ (to - 1)) (n % 2 ^ to)) some wider (mod-lt n (pow_pos to)) refl)

  where_low : n < 2 ^ (M - 1) → not (residue M (signed to left) == n) ≡ not (fits_signed to (signed M n))
  unfolding left signed fits_signed
  where_low low =
      let read : nat_lt n (2 ^ (M - 1)) ≡ true = grind (arith, nat_tests) in
      ⊎_elim
      (λ (small : n < 2 ^ (to - 1)).
      let same : n % 2 ^ to ≡ n = mod-eq_of_lt (omega (arith, halves)) in
      let t : nat_le (2 ^ (to - 1)) n ≡ false = grind (arith, nat_tests) in
      let is : residue M (signed to (n % 2 ^ to)) ≡ n = again ∙ rw (same, t) (omega arith) in
      rw (eq-eqb _ _ is, read, low_fits (2 ^ (to - 1)) (2 ^ M) n small) refl)
      (λ (large : 2 ^ (to - 1) ≤ n).
      let apart = again_low (2 ^ (to - 1)) (2 ^ to) (2 ^ M) q n (n % 2 ^ to) halves parts more (mod-lt n (pow_pos to)) large (omega (arith, larger_halves)) in
      rw (ne_eqb _ _ (λ e. apart (sym again ∙ e)), read, low_fails (2 ^ (to - 1)) n large) refl)
      (cases_lt n (2 ^ (to - 1)))

  where_high : 2 ^ (M - 1) ≤ n → not (residue M (signed to left) == n) ≡ not (fits_signed to (signed M n))
  unfolding left signed fits_signed
  where_high high =
      let read : nat_lt n (2 ^ (M - 1)) ≡ false = grind (arith, nat_tests) in
      ⊎_elim
      (λ (far : 2 ^ (to - 1) < 2 ^ M - n).
      let apart = again_high (2 ^ (to - 1)) (2 ^ to) (2 ^ M) q n (n % 2 ^ to) halves parts more (mod-lt n (pow_pos to)) below (omega (arith, larger_halves)) far in
      rw (ne_eqb _ _ (λ e. apart (sym again ∙ e)), read, high_fails (2 ^ (to - 1)) (2 ^ M) n below far) refl)
      (λ (near : 2 ^ M - n ≤ 2 ^ (to - 1)).
      let is : residue M (signed to (n % 2 ^ to)) ≡ n = again ∙ again_same (2 ^ (to - 1)) (2 ^ to) (2 ^ M) q n (pow_pos (to - 1)) halves parts below near in
      rw (eq-eqb _ _ is, read, high_fits (2 ^ (to - 1)) (2 ^ M) n below near) refl)
      (cases_lt (2 ^ (to - 1)) (2 ^ M - n))

  pub cut_signed : not (residue M (signed to (n % 2 ^ to)) == n) ≡ not (fits_signed to (signed M n))
  unfolding left
  cut_signed = ⊎_elim where_low where_high (cases_lt n (2 ^ (M - 1)))

-- when a `trunc` breaks its flags
pub cut_breaks : (flags : Flags) (M to n m : ℕ) (wraps wraps_signed made : Bool) → 1 ≤ to → to < M → n < 2 ^ M → m ≡ n % 2 ^ to
    → wraps ≡ (flags.nuw && not (extended false to M m == n)) → wraps_signed ≡ (flags.nsw && not (extended true to M m == n)) → made ≡ (wraps || wraps_signed)
    → made ≡ breaks_flags Trunc flags M to n
unfolding breaks_flags
cut_breaks flags M to n m wraps wraps_signed made some wider below m_is wraps_is signed_is made_is =
    rw (made_is, wraps_is, signed_is, m_is, cut_unsigned to n, cut_signed M to n some wider below) refl
