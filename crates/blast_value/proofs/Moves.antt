-- Shifts of numbers, as products with powers of 2 and quotients by them.
use Rattle.blast_value.proofs.Common.{◌≡◌, ◌==◌, ℕ, zero, suc, ◌+◌, ◌-◌, ◌*◌, ◌/◌, ◌%◌, ◌^◌, ◌<◌, ◌≤◌, ◌⊎◌, Bool, true, false, not, ◌&&◌, ◌||◌, nat_lt, nat_le, if◌then◌else◌, refl, sym, ap, ◌∙◌, ⊎_elim, inl, inr, arith, div-le_self, ℤ, pos, negsuc, neg_ℤ, ◌-ℤ◌, ◌*ℤ◌, int_le, int_lt, int_div_euclid, cases_lt, nat_tests, ints, pow_pos, pow-add, div-mul-add, pow-succ', mod-eq_of_lt, mod-lt, mod-add-div, mod-add-div', mul-div_cancel, mul-le-mul_left, add-mul-div_left, Poison, Flags, bits, signed, residue, fits_unsigned, fits_signed, arithmetic, shl, lshr, ashr, bit, doubled, floor, moved_back}
use Rattle.circuits.proofs.Words.{remainder}
use Rattle.blast_value.proofs.Numbers.{signed_same, residue-pos}

-- ---- products with a power
less_scaled : (p x y : ℕ) → 0 < p → nat_lt (x * p) (p * y) ≡ nat_lt x y
less_scaled p x y some =
    ⊎_elim
    (λ (h : x < y). let more : x + 1 ≤ y = omega arith in let t : nat_lt x y ≡ true = grind arith in rw t (grind (arith, nat_tests, mul-le-mul_left p more)))
    (λ (h : y ≤ x). let t : nat_lt x y ≡ false = grind arith in rw t (grind (arith, nat_tests, mul-le-mul_left p h)))
    (cases_lt x y)

at_most_scaled : (p x y : ℕ) → 0 < p → nat_le (x * p) (p * y) ≡ nat_le x y
at_most_scaled p x y some =
    ⊎_elim
    (λ (h : y < x). let more : y + 1 ≤ x = omega arith in let t : nat_le x y ≡ false = grind (arith, nat_tests) in rw t (grind (arith, nat_tests, mul-le-mul_left p more)))
    (λ (h : x ≤ y). let t : nat_le x y ≡ true = grind (arith, nat_tests) in rw t (grind (arith, nat_tests, mul-le-mul_left p h)))
    (cases_lt y x)

at_least_scaled : (p x y : ℕ) → 0 < p → nat_le (p * y) (x * p) ≡ nat_le y x
at_least_scaled p x y some =
    ⊎_elim
    (λ (h : x < y). let more : x + 1 ≤ y = omega arith in let t : nat_le y x ≡ false = grind (arith, nat_tests) in rw t (grind (arith, nat_tests, mul-le-mul_left p more)))
    (λ (h : y ≤ x). let t : nat_le y x ≡ true = grind (arith, nat_tests) in rw t (grind (arith, nat_tests, mul-le-mul_left p h)))
    (cases_lt x y)

-- a product modulo a multiple of one of its factors
scaled_mod : (p k a : ℕ) → 0 < p → 0 < k → (a * p) % (p * k) ≡ a % k * p
scaled_mod p k a some some_k =
    let r = a % k in
    let u = a / k in
    let parts : r + k * u ≡ a = mod-add-div a k in
    let more : r + 1 ≤ k = omega (arith, mod-lt a some_k) in
    let below : r * p < p * k = omega (arith, mul-le-mul_left p more) in
    sym (remainder (r * p) (p * k) u (a * p) below (omega (arith, ap (λ n. n * p) parts)))

-- ---- a shift to the left and back, unsigned: it gives the number again exactly where no true bit is shifted out
back_unsigned : (p k a : ℕ) → 0 < p → 0 < k → ((a * p) % (p * k) / p == a) ≡ nat_lt (a * p) (p * k)
back_unsigned p k a some some_k =
    let back : a % k * p / p ≡ a % k = mul-div_cancel (a % k) some in
    let small : a % k < k = mod-lt a some_k in
    rw (scaled_mod p k a some some_k, back, less_scaled p a k some)
    (⊎_elim
    (λ (h : a < k). let same : a % k ≡ a = mod-eq_of_lt h in grind (arith, nat_tests))
    (λ (h : k ≤ a). grind (arith, nat_tests))
    (cases_lt a k))

-- ---- and signed: exactly where the number is in the lowest or the highest part of the range
within_ends : ℕ → ℕ → ℕ → Bool
within_ends q j a = nat_lt a j || nat_le (q - j) a

-- a multiple of j is 0 or at least j
some_or_none : (j n : ℕ) → (j * n ≡ 0) ⊎ (j ≤ j * n)
some_or_none j zero = inl (omega arith)
some_or_none j (suc n) = inr (omega arith)

back_low : (j r x y a q : ℕ) → 0 < j → r < j → a ≡ 2 * x + r → q ≡ 2 * x + 2 * j + 2 * y → (x ≡ 0) ⊎ (j ≤ x) → (r == a) ≡ within_ends q j a
unfolding within_ends
back_low j r x y a q some low a_is q_is ends =
    ⊎_elim
    (λ (h : x ≡ 0). grind (arith, nat_tests))
    (λ (h : j ≤ x). grind (arith, nat_tests))
    ends

back_high : (j r x y a q : ℕ) → 0 < j → j ≤ r → r < 2 * j → a ≡ 2 * x + r → q ≡ 2 * x + 2 * j + 2 * y → (y ≡ 0) ⊎ (j ≤ y) → (r + (q - 2 * j) == a) ≡ within_ends q j a
unfolding within_ends
back_high j r x y a q some high below a_is q_is ends =
    ⊎_elim
    (λ (h : y ≡ 0). grind (arith, nat_tests))
    (λ (h : j ≤ y). grind (arith, nat_tests))
    ends

high_part : (r p q k t : ℕ) → q ≡ t + k → q ≡ k * p → r * p + 1 * (q * p - q) ≡ (r + t) * p
high_part r p q k t q_is whole = let rows : q * p ≡ t * p + k * p = ap (λ n. n * p) q_is ∙ omega arith in omega arith

back_signed : (p j a : ℕ) → 0 < p → 0 < j → a < 2 * (p * j) →
    let q = 2 * (p * j) in
    let s = (a * p) % q in
    ((s + bit (nat_le (p * j) s) * (q * p - q)) / p == a) ≡ within_ends q j a
back_signed p j a some some_j below =
    let k = 2 * j in
    let r = a % k in
    let u = a / k in
    let parts : r + k * u ≡ a = mod-add-div a k in
    let small : r < k = mod-lt a (omega arith) in
    let range : p * k ≡ 2 * (p * j) = omega arith in
    let s_is : (a * p) % (2 * (p * j)) ≡ r * p = ap (λ q. (a * p) % q) (sym range) ∙ scaled_mod p k a some (omega arith) in
    let rows : u < p = ⊎_elim (λ (h : u < p). h) (λ (h : p ≤ u). absurd (omega (arith, mul-le-mul_left k h))) (cases_lt u p) in
    let d = p - 1 - u in
    let p_is : p ≡ u + 1 + d = omega arith in
    let q_is : 2 * (p * j) ≡ 2 * (j * u) + 2 * j + 2 * (j * d) = ap (λ n. 2 * (n * j)) p_is ∙ omega arith in
    let a_is : a ≡ 2 * (j * u) + r = omega arith in
    rw (s_is, at_least_scaled p r j some)
    (⊎_elim
    (λ (h : r < j).
    let t : nat_le j r ≡ false = grind (arith, nat_tests) in
    let nothing : r * p + bit false * (2 * (p * j) * p - 2 * (p * j)) ≡ r * p = omega arith in
    rw (t, nothing, mul-div_cancel r some) (back_low j r (j * u) (j * d) a (2 * (p * j)) some_j h a_is q_is (some_or_none j u)))
    (λ (h : j ≤ r).
    let t : nat_le j r ≡ true = grind (arith, nat_tests) in
    let high : r * p + bit true * (2 * (p * j) * p - 2 * (p * j)) ≡ (r + (2 * (p * j) - 2 * j)) * p = high_part r p (2 * (p * j)) (2 * j) (2 * (p * j) - 2 * j) (omega arith) (omega arith) in
    rw (t, high, mul-div_cancel (r + (2 * (p * j) - 2 * j)) some) (back_high j r (j * u) (j * d) a (2 * (p * j)) some_j h small a_is q_is (some_or_none j d)))
    (cases_lt r j))

negation_times : (e p : ℕ) → neg_ℤ (pos e) *ℤ pos p ≡ neg_ℤ (pos (e * p))
negation_times zero p = omega (arith, ints)
negation_times (suc e) p = refl

minus_is : (q a e : ℕ) → a + e ≡ q → pos a -ℤ pos q ≡ neg_ℤ (pos e)
minus_is q a zero total = omega (arith, ints)
minus_is q a (suc e) total = omega (arith, ints)

mul-le : {p : ℕ} (j : ℕ) → 0 < p → 1 * j ≤ p * j
mul-le {p = p} j some = let one : 1 ≤ p = omega arith in omega (arith, mul-le-mul_left j one)

-- ---- whether a product with a power of 2 fits
fits_at : (h : ℕ) (z : ℤ) → Bool
fits_at h z = int_le (neg_ℤ (pos h)) z && int_lt z (pos h)

fits_low : (h x : ℕ) → 0 < h → fits_at h (pos x) ≡ nat_lt x h
unfolding fits_at
fits_low zero x some = elim some [ ]
fits_low (suc h) x some = grind (arith, ints, nat_tests)

fits_high : (h x : ℕ) → 0 < h → fits_at h (neg_ℤ (pos x)) ≡ nat_le x h
unfolding fits_at
fits_high zero _ some = elim some [ ]
fits_high (suc h) zero some = grind (arith, ints, nat_tests)
fits_high (suc h) (suc x) some = grind (arith, ints, nat_tests)

signed_fits : (p j a : ℕ) → 0 < p → 0 < j → a < 2 * (p * j) → fits_at (p * j) ((if nat_lt a (p * j) then pos a else pos a -ℤ pos (2 * (p * j))) *ℤ pos p) ≡ within_ends (2 * (p * j)) j a
unfolding within_ends
signed_fits p j a some some_j below =
    let least : 1 * j ≤ p * j = mul-le j some in
    let room : 0 < p * j = omega arith in
    ⊎_elim
    (λ (h : a < p * j).
    let t : nat_lt a (p * j) ≡ true = grind arith in
    let u : nat_le (2 * (p * j) - j) a ≡ false = grind (arith, nat_tests) in
    rw (t, u, fits_low (p * j) (a * p) room, less_scaled p a j some) (grind (arith, nat_tests)))
    (λ (h : p * j ≤ a).
    let t : nat_lt a (p * j) ≡ false = grind arith in
    let u : nat_lt a j ≡ false = grind (arith, nat_tests) in
    let e = 2 * (p * j) - a in
    let z : pos a -ℤ pos (2 * (p * j)) ≡ neg_ℤ (pos e) = minus_is (2 * (p * j)) a e (omega arith) in
    rw (t, u, z, negation_times e p, fits_high (p * j) (e * p) room, at_most_scaled p e j some) (grind (arith, nat_tests)))
    (cases_lt a (p * j))

-- ---- the powers of 2 of a width N and of an amount b below it
module _ (N b : ℕ) (inside : b < N) where
  pub power_split : 2 ^ N ≡ 2 ^ b * 2 ^ (N - b)
  power_split = let e : N ≡ b + (N - b) = omega arith in ap (λ n. 2 ^ n) e ∙ pow-add 2 b (N - b)

  pub half_split : 2 ^ (N - 1) ≡ 2 ^ b * 2 ^ (N - 1 - b)
  half_split = let e : N - 1 ≡ b + (N - 1 - b) = omega arith in ap (λ n. 2 ^ n) e ∙ pow-add 2 b (N - 1 - b)

  pub whole_split : 2 ^ N ≡ 2 * (2 ^ b * 2 ^ (N - 1 - b))
  whole_split = let e : N ≡ (N - 1) + 1 = omega arith in ap (λ n. 2 ^ n) e ∙ doubled (N - 1) ∙ ap (λ n. 2 * n) half_split

  -- shifting back, unsigned, gives the number again exactly where the product with 2 ^ b fits
  pub unsigned_kept : (a : ℕ) → a < 2 ^ N → (moved_back false N ((a * 2 ^ b) % 2 ^ N) b == a) ≡ fits_unsigned N (pos a *ℤ pos (2 ^ b))
  unfolding fits_unsigned
  unsigned_kept a below =
      let s = (a * 2 ^ b) % 2 ^ N in
      let nothing : s + 0 * (2 ^ (N + b) - 2 ^ N) ≡ s = omega arith in
      let fits : nat_lt (a * 2 ^ b) (2 ^ N) ≡ (int_le (pos 0) (pos (a * 2 ^ b)) && int_lt (pos (a * 2 ^ b)) (pos (2 ^ N))) = grind (arith, ints, nat_tests) in
      rw nothing (rw (power_split) (back_unsigned (2 ^ b) (2 ^ (N - b)) a (pow_pos b) (pow_pos (N - b))) ∙ fits)

  pub signed_kept : (a : ℕ) → a < 2 ^ N → (moved_back true N ((a * 2 ^ b) % 2 ^ N) b == a) ≡ fits_signed N (signed N a *ℤ pos (2 ^ b))
  unfolding fits_signed signed fits_at
  signed_kept a below =
      let p = 2 ^ b in
      let j = 2 ^ (N - 1 - b) in
      rw (pow-add 2 N b, half_split, whole_split) (back_signed p j a (pow_pos b) (pow_pos (N - 1 - b)) (rw whole_split at below) ∙ sym (signed_fits p j a (pow_pos b) (pow_pos (N - 1 - b)) (rw whole_split at below)))

-- ---- shifts to the right
-- the number with its sign bit repeated above it, divided by the power
floor_extended : (p k a : ℕ) (top : Bool) → 0 < p → (a + bit top * (p * k * p - p * k)) / p ≡ a / p + bit top * (k * (p - 1))
floor_extended p k a true some =
    let d = p - 1 in
    let p_is : p ≡ d + 1 = omega arith in
    let rows : p * k * p ≡ p * k * d + p * k = ap (λ n. p * k * n) p_is ∙ omega arith in
    let total : a + 1 * (p * k * p - p * k) ≡ a + p * (k * d) = omega arith in
    rw total (add-mul-div_left a (k * d) some ∙ omega arith)
floor_extended p k a false some = let nothing : a + 0 * (p * k * p - p * k) ≡ a = omega arith in rw nothing (omega arith)

-- a shift back to the left gives the number again exactly where the power divides it
cut_back : (p k a x c d : ℕ) → 0 < p → a < p * k → x ≡ a / p + c → c * p ≡ p * k * d → ((x * p) % (p * k) == a) ≡ (a % p == 0)
cut_back p k a x c d some below x_is c_is =
    let parts : a % p + a / p * p ≡ a = mod-add-div' a p in
    let total : a / p * p + p * k * d ≡ x * p = rw x_is (omega arith) in
    let is : a / p * p ≡ (x * p) % (p * k) = remainder (a / p * p) (p * k) d (x * p) (omega arith) total in
    rw (← is) (grind (arith, nat_tests))

-- the floor of the quotient of a negative number by the power
floor_at : (p q a m e f g : ℕ) → a + m + 1 ≡ q → f + e * p ≡ m → q ≡ g + 1 + e → f < p → a + 1 * (q * p - q) ≡ g * p + (p - 1 - f)
floor_at p q a m e f g m_is parts q_is small =
    let rows : q * p ≡ g * p + p + e * p = ap (λ n. n * p) q_is ∙ omega arith in
    let one : 1 ≤ p = omega arith in
    let larger : q * 1 ≤ q * p = mul-le-mul_left q one in
    omega arith

floor_signed : (p q a m : ℕ) → 0 < p → a + m + 1 ≡ q → (a + 1 * (q * p - q)) / p ≡ q - 1 - m / p
floor_signed p q a m some m_is =
    let small : m % p < p = mod-lt m some in
    let few : m / p ≤ m = div-le_self m p in
    let total = floor_at p q a m (m / p) (m % p) (q - 1 - m / p) m_is (mod-add-div' m p) (omega arith) small in
    rw total (div-mul-add (q - 1 - m / p) p (p - 1 - m % p) (omega arith))

module _ (N b a : ℕ) (inside : b < N) (below : a < 2 ^ N) where
  pub low_floor : a / 2 ^ b ≡ residue N (pos (a / 2 ^ b))
  low_floor = sym (residue-pos N (a / 2 ^ b) ∙ mod-eq_of_lt (omega (arith, div-le_self a (2 ^ b))))

  pub signed_floor : (top : Bool) → top ≡ nat_le (2 ^ (N - 1)) a → (a + bit top * (2 ^ (N + b) - 2 ^ N)) / 2 ^ b ≡ residue N (int_div_euclid (signed N a) (pos (2 ^ b)))
  unfolding residue
  signed_floor true is =
      let m = 2 ^ N - a - 1 in
      let z : pos a -ℤ pos (2 ^ N) ≡ negsuc m = omega (arith, ints) in
      let same : m / 2 ^ b % 2 ^ N ≡ m / 2 ^ b = mod-eq_of_lt (omega (arith, div-le_self m (2 ^ b))) in
      rw (← signed_same N a, ← is, z, same, pow-add 2 N b) (floor_signed (2 ^ b) (2 ^ N) a m (pow_pos b) (omega arith))
  signed_floor false is =
      let nothing : a + 0 * (2 ^ (N + b) - 2 ^ N) ≡ a = omega arith in
      rw (← signed_same N a, ← is, nothing) low_floor

  pub cut_kept : (top : Bool) → ((a + bit top * (2 ^ (N + b) - 2 ^ N)) / 2 ^ b * 2 ^ b % 2 ^ N == a) ≡ (a % 2 ^ b == 0)
  cut_kept top =
      let p = 2 ^ b in
      let k = 2 ^ (N - b) in
      let split = power_split N b inside in
      let c = bit top * (k * (p - 1)) in
      let c_is : c * p ≡ p * k * (bit top * (p - 1)) = omega arith in
      rw (pow-add 2 N b, split) (cut_back p k a _ c (bit top * (p - 1)) (pow_pos b) (rw split at below) (floor_extended p k a top (pow_pos b)) c_is)

-- ---- whole shifts, with their tests for poison
pub left_value : (flags : Flags) (N a b l n : ℕ) (poison far wraps wraps_signed : Bool) → a < 2 ^ N → l ≡ N → n ≡ (a * 2 ^ b) % 2 ^ N → far ≡ nat_le N b → wraps ≡ (flags.nuw && not (moved_back false N n b == a)) → wraps_signed ≡ (flags.nsw && not (moved_back true N n b == a)) → poison ≡ (far || (wraps || wraps_signed)) → (if poison then Poison else bits l n) ≡ shl flags N a b
unfolding shl arithmetic
left_value flags N a b l n poison far wraps wraps_signed below width n_is far_is wraps_is signed_is poison_is =
    ⊎_elim
    (λ (h : b < N).
    let t : nat_le N b ≡ false = grind (arith, nat_tests) in
    rw (poison_is, far_is, t, wraps_is, signed_is, n_is, width, unsigned_kept N b h a below, signed_kept N b h a below, residue-pos N (a * 2 ^ b)) refl)
    (λ (h : N ≤ b). let t : nat_le N b ≡ true = grind (arith, nat_tests) in rw (poison_is, far_is, t) refl)
    (cases_lt b N)

pub right_value : (exact is_signed : Bool) (N a b l n : ℕ) (poison far lost top : Bool) → a < 2 ^ N → l ≡ N → top ≡ (is_signed && nat_le (2 ^ (N - 1)) a) → n ≡ (a + bit top * (2 ^ (N + b) - 2 ^ N)) / 2 ^ b → far ≡ nat_le N b → lost ≡ (exact && not ((n * 2 ^ b) % 2 ^ N == a)) → poison ≡ (far || lost) → (if poison then Poison else bits l n) ≡ floor exact is_signed N a b
unfolding lshr ashr
right_value exact true N a b l n poison far lost top below width top_is n_is far_is lost_is poison_is =
    ⊎_elim
    (λ (h : b < N).
    let t : nat_le N b ≡ false = grind (arith, nat_tests) in
    rw (poison_is, far_is, t, lost_is, n_is, width, cut_kept N b a h below top, signed_floor N b a h below top top_is) refl)
    (λ (h : N ≤ b). let t : nat_le N b ≡ true = grind (arith, nat_tests) in rw (poison_is, far_is, t) refl)
    (cases_lt b N)
right_value exact false N a b l n poison far lost top below width top_is n_is far_is lost_is poison_is =
    ⊎_elim
    (λ (h : b < N).
    let t : nat_le N b ≡ false = grind (arith, nat_tests) in
    let nothing : a + 0 * (2 ^ (N + b) - 2 ^ N) ≡ a = omega arith in
    rw (poison_is, far_is, t, lost_is, n_is, width, cut_kept N b a h below top, top_is, nothing) refl)
    (λ (h : N ≤ b). let t : nat_le N b ≡ true = grind (arith, nat_tests) in rw (poison_is, far_is, t) refl)
    (cases_lt b N)

-- a width is below its power of two, so a word of that width can hold it
pub width-below : (n : ℕ) → n < 2 ^ n
width-below zero = omega arith
width-below (suc n) = rw (pow-succ' 2 n) (omega (arith, width-below n))

pub not_below : (N b : ℕ) → not (nat_lt b N) ≡ nat_le N b
not_below N b = grind (arith, nat_tests)

pub asked_value : (asked made value : Bool) → asked ≡ true → made ≡ value → made ≡ (asked && value)
asked_value asked made value on is = is ∙ rw on refl
