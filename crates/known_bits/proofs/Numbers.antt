-- The numbers of words, and what instructions make of them.
use Rattle.known_bits.proofs.Common.{◌≡◌, ◌==◌, ℕ, zero, suc, ◌+◌, ◌-◌, ◌*◌, ◌/◌, ◌%◌, ◌^◌, ◌<◌, ◌≤◌, Bool, true, false, ◌&&◌, ◌||◌, nat_lt, nat_le, List, [], ◌∷◌, length, refl, sym, ap, ◌∙◌, ⊎_elim, arith, div-le_self, pos, negsuc, ◌-ℤ◌, bit_and, bit_or, bit_xor, xor, int_div_euclid, cases_lt, nat_tests, ints, pow_pos, pow_below, pow-add, div-mul-add, and_block, or_block, xor_block, pow-succ', mod-eq_of_lt, mod-lt, mod-add-div', mul-le-mul_left, binary_digits, signed, residue, bit, number, bit-le_one, remainder}
use Rattle.known_bits.proofs.Having.{both, highest}

-- ---- binary digits
lowest : (b : Bool) (n : ℕ) → ((bit b + 2 * n) % 2 == 1) ≡ b
lowest true n = let e : (1 + 2 * n) % 2 ≡ 1 = omega arith in rw e refl
lowest false n = let e : (0 + 2 * n) % 2 ≡ 0 = omega arith in rw e refl

others : (b : Bool) (n : ℕ) → (bit b + 2 * n) / 2 ≡ n
others true n = omega arith
others false n = omega arith

-- the digits of a word's number are the word
pub digits_number : (u : List Bool) → binary_digits (length u) (number u) ≡ u
digits_number [] = refl
digits_number (b ∷ u) = rw (lowest b (number u), others b (number u)) (ap (λ rest. b ∷ rest) (digits_number u))

digit_bit : (n : ℕ) → bit (n % 2 == 1) ≡ n % 2
digit_bit n = grind (arith, nat_tests)

-- the number of a number's digits is the number
pub number_digits : (N n : ℕ) → n < 2 ^ N → number (binary_digits N n) ≡ n
number_digits zero n below = omega arith
number_digits (suc N) n below =
    let half : n / 2 < 2 ^ N = omega (arith, pow-succ' 2 N) in
    omega (arith, digit_bit n, number_digits N (n / 2) half)

pub length_digits : (N n : ℕ) → length (binary_digits N n) ≡ N
length_digits zero n = refl
length_digits (suc N) n = ap suc (length_digits N (n / 2))

-- ---- digit by digit
module _ (op : Bool → Bool → Bool) (of_numbers : ℕ → ℕ → ℕ) (none : of_numbers 0 0 ≡ 0) (block : (a b r s : ℕ) → r < 2 ^ 1 → s < 2 ^ 1 → of_numbers (a * 2 ^ 1 + r) (b * 2 ^ 1 + s) ≡ of_numbers a b * 2 ^ 1 + of_numbers r s) (digit : (a b : Bool) → bit (op a b) ≡ of_numbers (bit a) (bit b)) where
  by_digits : (u w : List Bool) → length w ≡ length u → number (both op u w) ≡ of_numbers (number u) (number w)
  by_digits [] [] same = sym none
  by_digits [] (b ∷ w) same = absurd (omega arith)
  by_digits (a ∷ u) [] same = absurd (omega arith)
  by_digits (a ∷ u) (b ∷ w) same =
      let left : number u * 2 ^ 1 + bit a ≡ bit a + 2 * number u = omega arith in
      let right : number w * 2 ^ 1 + bit b ≡ bit b + 2 * number w = omega arith in
      let parts = rw (left, right) at (block (number u) (number w) (bit a) (bit b) (omega (arith, bit-le_one a)) (omega (arith, bit-le_one b))) in
      omega (arith, by_digits u w (omega arith), digit a b, parts)

and_digit : (a b : Bool) → bit (a && b) ≡ bit_and (bit a) (bit b)
and_digit true true = refl
and_digit true false = refl
and_digit false true = refl
and_digit false false = refl

or_digit : (a b : Bool) → bit (a || b) ≡ bit_or (bit a) (bit b)
or_digit true true = refl
or_digit true false = refl
or_digit false true = refl
or_digit false false = refl

xor_digit : (a b : Bool) → bit (xor a b) ≡ bit_xor (bit a) (bit b)
unfolding mathlib.Core.Bool.xor
xor_digit true true = refl
xor_digit true false = refl
xor_digit false true = refl
xor_digit false false = refl

pub and_number : (u w : List Bool) → length w ≡ length u → number (both (λ a b. a && b) u w) ≡ bit_and (number u) (number w)
and_number = by_digits (λ a b. a && b) bit_and refl (λ a b r s. and_block 1 a b r s) and_digit

pub or_number : (u w : List Bool) → length w ≡ length u → number (both (λ a b. a || b) u w) ≡ bit_or (number u) (number w)
or_number = by_digits (λ a b. a || b) bit_or refl (λ a b r s. or_block 1 a b r s) or_digit

pub xor_number : (u w : List Bool) → length w ≡ length u → number (both xor u w) ≡ bit_xor (number u) (number w)
xor_number = by_digits xor bit_xor refl (λ a b r s. xor_block 1 a b r s) xor_digit

-- ---- the sign
half : (p m : ℕ) (b : Bool) → nat_le (2 * p) (bit b + 2 * m) ≡ nat_le p m
half p m true = grind (arith, nat_tests)
half p m false = grind (arith, nat_tests)

one_bit : (b : Bool) → b ≡ nat_le 1 (bit b + 2 * 0)
one_bit true = refl
one_bit false = refl

pub highest_sign : (u : List Bool) → highest u ≡ nat_le (2 ^ (length u - 1)) (number u)
highest_sign [] = refl
highest_sign (a ∷ []) = one_bit a
highest_sign (a ∷ b ∷ u) =
    let longer : length (a ∷ b ∷ u) - 1 ≡ suc (length u) = omega arith in
    let shorter : length (b ∷ u) - 1 ≡ length u = omega arith in
    highest_sign (b ∷ u)
    ∙ rw (longer, shorter, pow-succ' 2 (length u)) (sym (half (2 ^ length u) (number (b ∷ u)) a))

signed_low : (N a : ℕ) → false ≡ nat_le (2 ^ (N - 1)) a → signed N a ≡ pos a
unfolding signed
signed_low N a is = let t : nat_lt a (2 ^ (N - 1)) ≡ true = grind (arith, nat_tests) in rw t refl

signed_high : (N a : ℕ) → true ≡ nat_le (2 ^ (N - 1)) a → signed N a ≡ pos a -ℤ pos (2 ^ N)
unfolding signed
signed_high N a is = let t : nat_lt a (2 ^ (N - 1)) ≡ false = grind (arith, nat_tests) in rw t refl

-- ---- modulo a power of two
pub residue-pos : (N a : ℕ) → residue N (pos a) ≡ a % 2 ^ N
unfolding residue
residue-pos N a = refl

pub residue-small : (N a : ℕ) → a < 2 ^ N → residue N (pos a) ≡ a
residue-small N a below = residue-pos N a ∙ mod-eq_of_lt below

residue-below : (N a b : ℕ) → b < a → a ≤ 2 ^ N → residue N (pos b -ℤ pos a) ≡ 2 ^ N - (a - b)
unfolding residue
residue-below N a b below fits =
    let k = a - b - 1 in
    let is : pos b -ℤ pos a ≡ negsuc k = omega (arith, ints) in
    let same : k % 2 ^ N ≡ k = mod-eq_of_lt (omega arith) in
    rw (is, same) (omega arith)

pub difference : (N a b : ℕ) → a < 2 ^ N → b < 2 ^ N → (a + (2 ^ N - b)) % 2 ^ N ≡ residue N (pos a -ℤ pos b)
difference N a b below_a below_b =
    ⊎_elim
    (λ (low : a < b). mod-eq_of_lt (omega arith) ∙ sym (residue-below N b a low (omega arith) ∙ omega arith))
    (λ (high : b ≤ a).
    let is : pos a -ℤ pos b ≡ pos (a - b) = omega (arith, ints) in
    sym (rw is (residue-pos N (a - b) ∙ mod-eq_of_lt (omega arith) ∙ remainder (a - b) (2 ^ N) 1 (a + (2 ^ N - b)) (omega arith) (omega arith))))
    (cases_lt a b)

-- the signed number at a larger width
pub extended : (M N a : ℕ) (top : Bool) → M < N → a < 2 ^ M → top ≡ nat_le (2 ^ (M - 1)) a → a + bit top * (2 ^ N - 2 ^ M) ≡ residue N (signed M a)
extended M N a true wider below is =
    let larger : 2 ^ M < 2 ^ N = pow_below M N wider in
    rw (signed_high M a is) (sym (residue-below N (2 ^ M) a below (omega arith) ∙ omega arith))
extended M N a false wider below is =
    let larger : 2 ^ M < 2 ^ N = pow_below M N wider in
    rw (signed_low M a is) (sym (residue-small N a (omega arith) ∙ omega arith))

-- the floor of the signed number
floor_at : (p q a m e f g : ℕ) → a + m + 1 ≡ q → f + e * p ≡ m → q ≡ g + 1 + e → f < p → a + 1 * (q * p - q) ≡ g * p + (p - 1 - f)
floor_at p q a m e f g m_is parts q_is small =
    let rows : q * p ≡ g * p + p + e * p = ap (λ n. n * p) q_is ∙ omega arith in
    let one : 1 ≤ p = omega arith in
    let larger : q * 1 ≤ q * p = mul-le-mul_left q one in
    omega arith

floor_signed : (p q a m : ℕ) → 0 < p → a + m + 1 ≡ q → (a + 1 * (q * p - q)) / p ≡ q - 1 - m / p
floor_signed p q a m some m_is =
    let small : m % p < p = mod-lt m some in
    let few : m / p ≤ m = div-le_self m p in
    let whole = floor_at p q a m (m / p) (m % p) (q - 1 - m / p) m_is (mod-add-div' m p) (omega arith) small in
    rw whole (div-mul-add (q - 1 - m / p) p (p - 1 - m % p) (omega arith))

pub signed_floor : (N n a : ℕ) (top : Bool) → a < 2 ^ N → top ≡ nat_le (2 ^ (N - 1)) a → (a + bit top * (2 ^ (N + n) - 2 ^ N)) / 2 ^ n ≡ residue N (int_div_euclid (signed N a) (pos (2 ^ n)))
unfolding residue
signed_floor N n a true below is =
    let m = 2 ^ N - a - 1 in
    let z : pos a -ℤ pos (2 ^ N) ≡ negsuc m = omega (arith, ints) in
    let same : m / 2 ^ n % 2 ^ N ≡ m / 2 ^ n = mod-eq_of_lt (omega (arith, div-le_self m (2 ^ n))) in
    rw (signed_high N a is, z, same, pow-add 2 N n) (floor_signed (2 ^ n) (2 ^ N) a m (pow_pos n) (omega arith))
signed_floor N n a false below is =
    let nothing : a + 0 * (2 ^ (N + n) - 2 ^ N) ≡ a = omega arith in
    rw (signed_low N a is, nothing) (sym (residue-small N (a / 2 ^ n) (omega (arith, div-le_self a (2 ^ n)))))
