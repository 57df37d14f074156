-- Numbers in two's complement, and 2 to the power of a width.
use Rattle.ops.proofs.Common.{ℕ, ◌≡◌, ◌*◌, ◌-◌, ◌^◌, ◌<◌, ◌≤◌, ◌+◌, cond, ltb, ap, sym, ◌∙◌, arith, add-one, ℤ, pos, negsuc, neg_ℤ, ◌-ℤ◌, ◌↔◌, unsigned_abs, mod-lt, pow-succ', pow_pos, ints, nat_tests, signed, residue}

pub residue-lt : (N : ℕ) (z : ℤ) → residue N z < 2 ^ N
unfolding residue
residue-lt N (pos n) = mod-lt n (pow_pos N)
residue-lt N (negsuc n) = omega (arith, pow_pos N)

-- 2 to the power of a width is twice its half
pub pow_doubled : (N : ℕ) → 1 ≤ N → 2 ^ N ≡ 2 * 2 ^ (N - 1)
pow_doubled N h =
    let e : (N - 1) + 1 ≡ N = omega arith in
    ap (λ k. 2 ^ k) (sym e ∙ add-one (N - 1)) ∙ pow-succ' 2 (N - 1)

-- the absolute value of a signed number, which the least one has too
absolute_by_half : (half power n : ℕ) → 0 < half → n < power → unsigned_abs (cond (ltb n half) (pos n) (pos n -ℤ pos power)) < power
absolute_by_half half power n p h = grind (arith, ints, nat_tests)

pub absolute-lt : (N n : ℕ) → n < 2 ^ N → unsigned_abs (signed N n) < 2 ^ N
unfolding signed
absolute-lt N n h = absolute_by_half (2 ^ (N - 1)) (2 ^ N) n (pow_pos (N - 1)) h

-- which number is 0, -1 and the least one
zero_by_half : (half power n : ℕ) → 0 < half → n < power → (cond (ltb n half) (pos n) (pos n -ℤ pos power) ≡ pos 0) ↔ (n ≡ 0)
zero_by_half half power n p h = (λ e. grind (arith, ints, nat_tests), λ e. grind (arith, ints, nat_tests))

abbrev halved : ℕ → ℕ → ℤ
halved half n = cond (ltb n half) (pos n) (pos n -ℤ pos (2 * half))

halved-minus_one : (half n : ℕ) → 0 < half → n < 2 * half → (halved half n ≡ negsuc 0) ↔ (n ≡ 2 * half - 1)
halved-minus_one half n p h = (λ e. grind (arith, ints, nat_tests), λ e. grind (arith, ints, nat_tests))

halved-least : (half n : ℕ) → 0 < half → n < 2 * half → (halved half n ≡ neg_ℤ (pos half)) ↔ (n ≡ half)
halved-least half n p h = (λ e. grind (arith, ints, nat_tests), λ e. grind (arith, ints, nat_tests))

pub signed-zero : (N n : ℕ) → n < 2 ^ N → (signed N n ≡ pos 0) ↔ (n ≡ 0)
unfolding signed
signed-zero N n h = zero_by_half (2 ^ (N - 1)) (2 ^ N) n (pow_pos (N - 1)) h

pub signed-minus_one : (N n : ℕ) → 1 ≤ N → n < 2 ^ N → (signed N n ≡ negsuc 0) ↔ (n ≡ 2 ^ N - 1)
unfolding signed
signed-minus_one N n p h = rw (pow_doubled N p) (halved-minus_one (2 ^ (N - 1)) n (pow_pos (N - 1)) (rw (pow_doubled N p) at h))

pub signed-least : (N n : ℕ) → 1 ≤ N → n < 2 ^ N → (signed N n ≡ neg_ℤ (pos (2 ^ (N - 1)))) ↔ (n ≡ 2 ^ (N - 1))
unfolding signed
signed-least N n p h = rw (pow_doubled N p) (halved-least (2 ^ (N - 1)) n (pow_pos (N - 1)) (rw (pow_doubled N p) at h))
