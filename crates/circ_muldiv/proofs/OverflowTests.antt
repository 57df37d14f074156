-- The tests of words that say whether an exact result fits, shown right over whole numbers.
use Rattle.circ_muldiv.proofs.Common.{◌≡◌, ℕ, zero, suc, ◌+◌, ◌-◌, ◌*◌, ◌%◌, ◌^◌, ◌<◌, ◌≤◌, ℤ, pos, negsuc, neg_ℤ, ◌+ℤ◌, ◌-ℤ◌, ◌*ℤ◌, int_le, int_lt, unsigned_abs, Bool, true, false, not, ◌&&◌, ◌||◌, nat_lt, nat_le, if◌then◌else◌, List, [], ◌∷◌, ◌++◌, map, length, get_or, replicate, refl, sym, ap, subst, ⊎_elim, ◌∙◌, arith, xor, cases_lt, nat_tests, ints, map-append, length-map, length-replicate, pow_pos, pow-succ', mod-eq_of_lt, bit, number, signed, remainder, number-below, number-push, number-replicate, map-replicate, whole, fits}
use Rattle.circ_muldiv.proofs.Rows.{highest_bit}

halves : (n : ℕ) → 0 < n → 2 ^ n ≡ 2 * 2 ^ (n - 1)
halves n some =
    let last : n ≡ suc (n - 1) = omega arith in
    ap (λ k. 2 ^ k) last ∙ pow-succ' 2 (n - 1)

-- an unsigned sum overflows exactly where the last carry is 1
pub unsigned_sum : (n a b s : ℕ) (carry : Bool) → s < 2 ^ n → s + 2 ^ n * bit carry ≡ a + b → carry ≡ not (fits false n (pos a +ℤ pos b))
unsigned_sum n a b s true below total = grind (arith, ints, nat_tests)
unsigned_sum n a b s false below total = grind (arith, ints, nat_tests)

-- an unsigned difference overflows exactly where the first operand is less than the second
pub unsigned_difference : (n a b : ℕ) → a < 2 ^ n → nat_lt a b ≡ not (fits false n (pos a -ℤ pos b))
unsigned_difference n a b below = grind (arith, ints, nat_tests)

-- a number below 2 * half, read as signed in two's complement
read : ℕ → ℕ → Bool → ℤ
read half n negative = if negative then pos n -ℤ pos (2 * half) else pos n

-- z is from -half to half - 1
within : ℕ → ℤ → Bool
within half z = int_le (neg_ℤ (pos half)) z && int_lt z (pos half)

-- A signed sum overflows exactly where its sign differs from the signs of both operands.
signed_sum_at : (half a b s : ℕ) (x y z carry : Bool) → a < 2 * half → b < 2 * half → s < 2 * half → s + (2 * half) * bit carry ≡ a + b → x ≡ nat_le half a → y ≡ nat_le half b → z ≡ nat_le half s → (xor z x && xor z y) ≡ not (within half (read half a x +ℤ read half b y))
unfolding mathlib.Core.Bool.xor read within
signed_sum_at half a b s true true true true below_a below_b below_s total x_is y_is z_is = grind (arith, ints, nat_tests)
signed_sum_at half a b s true true true false below_a below_b below_s total x_is y_is z_is = grind (arith, ints, nat_tests)
signed_sum_at half a b s true true false true below_a below_b below_s total x_is y_is z_is = grind (arith, ints, nat_tests)
signed_sum_at half a b s true true false false below_a below_b below_s total x_is y_is z_is = grind (arith, ints, nat_tests)
signed_sum_at half a b s true false true true below_a below_b below_s total x_is y_is z_is = grind (arith, ints, nat_tests)
signed_sum_at half a b s true false true false below_a below_b below_s total x_is y_is z_is = grind (arith, ints, nat_tests)
signed_sum_at half a b s true false false true below_a below_b below_s total x_is y_is z_is = grind (arith, ints, nat_tests)
signed_sum_at half a b s true false false false below_a below_b below_s total x_is y_is z_is = grind (arith, ints, nat_tests)
signed_sum_at half a b s false true true true below_a below_b below_s total x_is y_is z_is = grind (arith, ints, nat_tests)
signed_sum_at half a b s false true true false below_a below_b below_s total x_is y_is z_is = grind (arith, ints, nat_tests)
signed_sum_at half a b s false true false true below_a below_b below_s total x_is y_is z_is = grind (arith, ints, nat_tests)
signed_sum_at half a b s false true false false below_a below_b below_s total x_is y_is z_is = grind (arith, ints, nat_tests)
signed_sum_at half a b s false false true true below_a below_b below_s total x_is y_is z_is = grind (arith, ints, nat_tests)
signed_sum_at half a b s false false true false below_a below_b below_s total x_is y_is z_is = grind (arith, ints, nat_tests)
signed_sum_at half a b s false false false true below_a below_b below_s total x_is y_is z_is = grind (arith, ints, nat_tests)
signed_sum_at half a b s false false false false below_a below_b below_s total x_is y_is z_is = grind (arith, ints, nat_tests)

-- A signed difference overflows exactly where the operands' signs differ and its sign isn't that of the first.
signed_difference_at : (half a b s : ℕ) (x y z carry : Bool) → a < 2 * half → b < 2 * half → s < 2 * half → s + (2 * half) * bit carry ≡ a + (2 * half - b) → x ≡ nat_le half a → y ≡ nat_le half b → z ≡ nat_le half s → (xor x y && xor x z) ≡ not (within half (read half a x -ℤ read half b y))
unfolding mathlib.Core.Bool.xor read within
signed_difference_at half a b s true true true true below_a below_b below_s total x_is y_is z_is = grind (arith, ints, nat_tests)
signed_difference_at half a b s true true true false below_a below_b below_s total x_is y_is z_is = grind (arith, ints, nat_tests)
signed_difference_at half a b s true true false true below_a below_b below_s total x_is y_is z_is = grind (arith, ints, nat_tests)
signed_difference_at half a b s true true false false below_a below_b below_s total x_is y_is z_is = grind (arith, ints, nat_tests)
signed_difference_at half a b s true false true true below_a below_b below_s total x_is y_is z_is = grind (arith, ints, nat_tests)
signed_difference_at half a b s true false true false below_a below_b below_s total x_is y_is z_is = grind (arith, ints, nat_tests)
signed_difference_at half a b s true false false true below_a below_b below_s total x_is y_is z_is = grind (arith, ints, nat_tests)
signed_difference_at half a b s true false false false below_a below_b below_s total x_is y_is z_is = grind (arith, ints, nat_tests)
signed_difference_at half a b s false true true true below_a below_b below_s total x_is y_is z_is = grind (arith, ints, nat_tests)
signed_difference_at half a b s false true true false below_a below_b below_s total x_is y_is z_is = grind (arith, ints, nat_tests)
signed_difference_at half a b s false true false true below_a below_b below_s total x_is y_is z_is = grind (arith, ints, nat_tests)
signed_difference_at half a b s false true false false below_a below_b below_s total x_is y_is z_is = grind (arith, ints, nat_tests)
signed_difference_at half a b s false false true true below_a below_b below_s total x_is y_is z_is = grind (arith, ints, nat_tests)
signed_difference_at half a b s false false true false below_a below_b below_s total x_is y_is z_is = grind (arith, ints, nat_tests)
signed_difference_at half a b s false false false true below_a below_b below_s total x_is y_is z_is = grind (arith, ints, nat_tests)
signed_difference_at half a b s false false false false below_a below_b below_s total x_is y_is z_is = grind (arith, ints, nat_tests)

-- A signed product overflows exactly where its absolute value is above half - 1 or, where the signs differ, above half.
within_positive : (half m : ℕ) → 0 < half → nat_lt (half - 1) m ≡ not (within half (pos m))
unfolding within
within_positive half m some = grind (arith, ints, nat_tests)

within_negative : (half m : ℕ) → 0 < half → nat_lt half m ≡ not (within half (neg_ℤ (pos m)))
unfolding within
within_negative half zero some = grind (arith, ints, nat_tests)
within_negative half (suc m) some = grind (arith, ints, nat_tests)

limit : ℕ → Bool → ℕ
limit half differ = if differ then half else half - 1

nothing_below : (n : ℕ) → nat_lt n 0 ≡ false
nothing_below n = grind (arith, nat_tests)

product_within : (half : ℕ) (x y : ℤ) → 0 < half → nat_lt (limit half (xor (int_lt x (pos 0)) (int_lt y (pos 0)))) (unsigned_abs x * unsigned_abs y) ≡ not (within half (x *ℤ y))
unfolding mathlib.Core.Bool.xor limit
product_within half (pos a) (pos b) some = rw (nothing_below a, nothing_below b) (within_positive half (a * b) some)
product_within half (pos a) (negsuc b) some = rw (nothing_below a) (within_negative half (a * suc b) some)
product_within half (negsuc a) (pos b) some = rw (nothing_below b) (within_negative half (suc a * b) some)
product_within half (negsuc a) (negsuc b) some = within_positive half (suc a * suc b) some

abs_of_difference : (m n : ℕ) → n ≤ m → unsigned_abs (pos n -ℤ pos m) ≡ m - n
abs_of_difference m n below = grind (arith, ints)

abs_of_read : (half n : ℕ) (negative : Bool) → n < 2 * half → negative ≡ nat_le half n → unsigned_abs (read half n negative) ≡ (if negative then (2 * half - n) % (2 * half) else n)
unfolding read
abs_of_read half n true below is =
    let high : half ≤ n = grind (arith, nat_tests) in
    let size : 2 * half - n ≡ (2 * half - n) % (2 * half) = remainder (2 * half - n) (2 * half) 0 (2 * half - n) (omega arith) (omega arith) in
    abs_of_difference (2 * half) n (omega arith) ∙ size
abs_of_read half n false below is = refl

sign_of_read : (half n : ℕ) (negative : Bool) → n < 2 * half → negative ≡ nat_le half n → int_lt (read half n negative) (pos 0) ≡ negative
unfolding read
sign_of_read half n true below is = grind (arith, ints, nat_tests)
sign_of_read half n false below is = grind (arith, ints, nat_tests)

pub signed_sum : (n a b s : ℕ) (x y z carry : Bool) → 0 < n → a < 2 ^ n → b < 2 ^ n → s < 2 ^ n → s + 2 ^ n * bit carry ≡ a + b → x ≡ nat_le (2 ^ (n - 1)) a → y ≡ nat_le (2 ^ (n - 1)) b → z ≡ nat_le (2 ^ (n - 1)) s → (xor z x && xor z y) ≡ not (fits true n (whole true n a +ℤ whole true n b))
unfolding read within
signed_sum n a b s x y z carry some below_a below_b below_s total x_is y_is z_is =
    let range = halves n some in
    rw (range, ← x_is, ← y_is) (signed_sum_at (2 ^ (n - 1)) a b s x y z carry (rw range at below_a) (rw range at below_b) (rw range at below_s) (rw range at total) x_is y_is z_is)

difference_carry : (p a b s : ℕ) → a < p → b < p → s ≡ (a + (p - b)) % p → s + p * bit (nat_le b a) ≡ a + (p - b)
difference_carry p a b s below_a below_b is =
    ⊎_elim
    (λ (low : a < b).
    let t : nat_le b a ≡ false = grind (arith, nat_tests) in
    let same : (a + (p - b)) % p ≡ a + (p - b) = mod-eq_of_lt (omega arith) in
    rw t (omega arith))
    (λ (high : b ≤ a).
    let t : nat_le b a ≡ true = grind (arith, nat_tests) in
    let same : a - b ≡ (a + (p - b)) % p = remainder (a - b) p 1 (a + (p - b)) (omega arith) (omega arith) in
    rw t (omega arith))
    (cases_lt a b)

pub signed_difference : (n a b s : ℕ) (x y z : Bool) → 0 < n → a < 2 ^ n → b < 2 ^ n → s < 2 ^ n → s ≡ (a + (2 ^ n - b)) % 2 ^ n → x ≡ nat_le (2 ^ (n - 1)) a → y ≡ nat_le (2 ^ (n - 1)) b → z ≡ nat_le (2 ^ (n - 1)) s → (xor x y && xor x z) ≡ not (fits true n (whole true n a -ℤ whole true n b))
unfolding read within
signed_difference n a b s x y z some below_a below_b below_s is x_is y_is z_is =
    let range = halves n some in
    rw (range, ← x_is, ← y_is) (signed_difference_at (2 ^ (n - 1)) a b s x y z (nat_le b a) (rw range at below_a) (rw range at below_b) (rw range at below_s) (rw range at (difference_carry (2 ^ n) a b s below_a below_b is)) x_is y_is z_is)

-- a word, or its negation where it is negative, is its absolute value
pub magnitude_is : (n a : ℕ) (negative : Bool) → 0 < n → a < 2 ^ n → negative ≡ nat_le (2 ^ (n - 1)) a → (if negative then (2 ^ n - a) % 2 ^ n else a) ≡ unsigned_abs (signed n a)
unfolding read
magnitude_is n a negative some below is =
    let range = halves n some in
    rw (range, ← is) (sym (abs_of_read (2 ^ (n - 1)) a negative (rw range at below) is))

product_exceeds : (p m limit : ℕ) → limit < p → (nat_le p m || nat_lt limit (m % p)) ≡ nat_lt limit m
product_exceeds p m limit below =
    ⊎_elim
    (λ (low : m < p).
    let same : m % p ≡ m = mod-eq_of_lt low in
    let t : nat_le p m ≡ false = grind (arith, nat_tests) in
    rw (t, same) refl)
    (λ (high : p ≤ m).
    let t : nat_le p m ≡ true = grind (arith, nat_tests) in
    let u : nat_lt limit m ≡ true = grind (arith, nat_tests) in
    rw (t, u) refl)
    (cases_lt m p)

limit_below : (half : ℕ) (differ : Bool) → 0 < half → limit half differ < 2 * half
unfolding limit
limit_below half true some = omega arith
limit_below half false some = omega arith

pub sign_of_signed : (n a : ℕ) (negative : Bool) → 0 < n → a < 2 ^ n → negative ≡ nat_le (2 ^ (n - 1)) a → int_lt (signed n a) (pos 0) ≡ negative
unfolding read
sign_of_signed n a negative some below is =
    let range = halves n some in
    rw (range, ← is) (sign_of_read (2 ^ (n - 1)) a negative (rw range at below) is)

-- A signed product overflows exactly where the product of the absolute values does, or is above the greatest.
pub signed_product : (n a b : ℕ) (x y : Bool) → 0 < n → a < 2 ^ n → b < 2 ^ n → x ≡ nat_le (2 ^ (n - 1)) a → y ≡ nat_le (2 ^ (n - 1)) b → let m = unsigned_abs (signed n a) * unsigned_abs (signed n b) in (nat_le (2 ^ n) m || nat_lt (if xor x y then 2 ^ (n - 1) else 2 ^ (n - 1) - 1) (m % 2 ^ n)) ≡ not (fits true n (whole true n a *ℤ whole true n b))
unfolding read within limit
signed_product n a b x y some below_a below_b x_is y_is =
    let range = halves n some in
    let m = unsigned_abs (signed n a) * unsigned_abs (signed n b) in
    let limited = subst (λ p. limit (2 ^ (n - 1)) (xor x y) < p) (sym range) (limit_below (2 ^ (n - 1)) (xor x y) (pow_pos (n - 1))) in
    product_exceeds (2 ^ n) m (limit (2 ^ (n - 1)) (xor x y)) limited ∙ (rw (sign_of_signed n a x some below_a x_is, sign_of_signed n b y some below_b y_is) at (product_within (2 ^ (n - 1)) (signed n a) (signed n b) (pow_pos (n - 1))))

greatest_number : (n : ℕ) (x : Bool) → number (replicate n (not x)) + 2 ^ n * bit x ≡ (if x then 2 ^ n else 2 ^ n - 1)
greatest_number n true = omega (arith, number-replicate n false)
greatest_number n false = omega (arith, number-replicate n true)

-- the greatest absolute value as a word: the highest bit is the sign, and each below it the sign's negation
pub greatest_is : {L : Type 0} (value : L → Bool) (n : ℕ) (negated negative : L) (word : List L) → word ≡ replicate n negated ++ negative ∷ [] → value negated ≡ not (value negative) → number (map value word) ≡ (if value negative then 2 ^ n else 2 ^ n - 1)
greatest_is value n negated negative word is opposite =
    let places : length (replicate n (value negated)) ≡ n = length-replicate n (value negated) in
    rw (is, map-append value (replicate n negated) (negative ∷ []), map-replicate value n negated, number-push (replicate n (value negated)) (value negative), places, opposite)
    (greatest_number n (value negative))

chosen : (b : Bool) (yes no : List Bool) → number (if b then yes else no) ≡ (if b then number yes else number no)
chosen true on off = refl
chosen false on off = refl

-- the number of a word is below 2 to the power of its width
pub number_below : {L : Type 0} (value : L → Bool) (a : List L) → number (map value a) < 2 ^ length a
number_below value a = subst (λ k. number (map value a) < 2 ^ k) (length-map a value) (number-below (map value a))

pub absolute_value : {L : Type 0} (old mid new : L → Bool) (a negation word : List L) (x : L) → 0 < length a → x ≡ get_or a (length a - 1) x → mid x ≡ old x → map mid a ≡ map old a → number (map mid negation) ≡ (2 ^ length a - number (map old a)) % 2 ^ length a → map new word ≡ (if mid x then map mid negation else map mid a) → number (map new word) ≡ unsigned_abs (signed (length a) (number (map old a)))
absolute_value old mid new a negation word x some at_x x_kept a_kept negation_is word_is =
    rw word_is (chosen (mid x) (map mid negation) (map mid a) ∙ (rw (negation_is, x_kept, a_kept) (magnitude_is (length a) (number (map old a)) (old x) some (number_below old a) (highest_bit old a x some at_x))))

-- these tests over words of literals
without : (m a b none : ℕ) → none ≡ 0 → m ≡ a + b + none → m ≡ a + b
without m a b none is total = omega arith

pub sum_carries : {L : Type 0} (old new : L → Bool) (a b sum : List L) (carry first : L) → length sum ≡ length a → number (map new sum) + 2 ^ length a * bit (new carry) ≡ number (map old a) + number (map old b) + bit (old first) → old first ≡ false → new carry ≡ not (fits false (length a) (whole false (length a) (number (map old a)) +ℤ whole false (length a) (number (map old b))))
sum_carries old new a b sum carry first width total none =
    let below : number (map new sum) < 2 ^ length a = subst (λ k. number (map new sum) < 2 ^ k) width (number_below new sum) in
    unsigned_sum (length a) (number (map old a)) (number (map old b)) (number (map new sum)) (new carry) below (without _ _ _ _ (ap bit none) total)

pub sum_changes_sign : {L : Type 0} (old new : L → Bool) (a b sum : List L) (carry first x y z : L) → 0 < length a → length b ≡ length a → length sum ≡ length a → number (map new sum) + 2 ^ length a * bit (new carry) ≡ number (map old a) + number (map old b) + bit (old first) → old first ≡ false → x ≡ get_or a (length a - 1) x → y ≡ get_or b (length b - 1) y → z ≡ get_or sum (length sum - 1) z → new x ≡ old x → new y ≡ old y → (xor (new z) (new x) && xor (new z) (new y)) ≡ not (fits true (length a) (whole true (length a) (number (map old a)) +ℤ whole true (length a) (number (map old b))))
sum_changes_sign old new a b sum carry first x y z some same_width width total none at_x at_y at_z x_kept y_kept =
    let some_b : 0 < length b = omega arith in
    let some_sum : 0 < length sum = omega arith in
    let below_b : number (map old b) < 2 ^ length a = subst (λ k. number (map old b) < 2 ^ k) same_width (number_below old b) in
    let below_sum : number (map new sum) < 2 ^ length a = subst (λ k. number (map new sum) < 2 ^ k) width (number_below new sum) in
    rw (x_kept, y_kept)
    (signed_sum (length a) (number (map old a)) (number (map old b)) (number (map new sum)) (old x) (old y) (new z) (new carry) some (number_below old a) below_b below_sum (without _ _ _ _ (ap bit none) total) (highest_bit old a x some at_x) (rw same_width at (highest_bit old b y some_b at_y)) (rw width at (highest_bit new sum z some_sum at_z)))

pub difference_changes_sign : {L : Type 0} (old new : L → Bool) (a b difference : List L) (x y z : L) → 0 < length a → length b ≡ length a → length difference ≡ length a → number (map new difference) ≡ (number (map old a) + (2 ^ length a - number (map old b))) % 2 ^ length a → x ≡ get_or a (length a - 1) x → y ≡ get_or b (length b - 1) y → z ≡ get_or difference (length difference - 1) z → new x ≡ old x → new y ≡ old y → (xor (new x) (new y) && xor (new x) (new z)) ≡ not (fits true (length a) (whole true (length a) (number (map old a)) -ℤ whole true (length a) (number (map old b))))
difference_changes_sign old new a b difference x y z some same_width width is at_x at_y at_z x_kept y_kept =
    let some_b : 0 < length b = omega arith in
    let some_difference : 0 < length difference = omega arith in
    let below_b : number (map old b) < 2 ^ length a = subst (λ k. number (map old b) < 2 ^ k) same_width (number_below old b) in
    let below : number (map new difference) < 2 ^ length a = subst (λ k. number (map new difference) < 2 ^ k) width (number_below new difference) in
    rw (x_kept, y_kept)
    (signed_difference (length a) (number (map old a)) (number (map old b)) (number (map new difference)) (old x) (old y) (new z) some (number_below old a) below_b below is (highest_bit old a x some at_x) (rw same_width at (highest_bit old b y some_b at_y)) (rw width at (highest_bit new difference z some_difference at_z)))

pub product_exceeds_limit : {L : Type 0} (v0 v1 v2 v3 v4 v5 : L → Bool) (a b ma mb bits greatest : List L) (x y differ overflow exceeds : L) → 0 < length a → length b ≡ length a → length ma ≡ length a → x ≡ get_or a (length a - 1) x → y ≡ get_or b (length b - 1) y → v3 x ≡ v0 x → v3 y ≡ v0 y → v5 overflow ≡ v3 overflow → map v1 b ≡ map v0 b → map v2 ma ≡ map v1 ma → map v4 bits ≡ map v3 bits → number (map v1 ma) ≡ unsigned_abs (signed (length a) (number (map v0 a))) → number (map v2 mb) ≡ unsigned_abs (signed (length b) (number (map v1 b))) → number (map v3 bits) ≡ (number (map v2 ma) * number (map v2 mb)) % 2 ^ length ma → v3 overflow ≡ nat_le (2 ^ length ma) (number (map v2 ma) * number (map v2 mb)) → v4 differ ≡ xor (v3 x) (v3 y) → number (map v4 greatest) ≡ (if v4 differ then 2 ^ (length a - 1) else 2 ^ (length a - 1) - 1) → v5 exceeds ≡ nat_lt (number (map v4 greatest)) (number (map v4 bits)) → (v5 overflow || v5 exceeds) ≡ not (fits true (length a) (whole true (length a) (number (map v0 a)) *ℤ whole true (length a) (number (map v0 b))))
product_exceeds_limit v0 v1 v2 v3 v4 v5 a b ma mb bits greatest x y differ overflow exceeds some same_width width at_x at_y x_kept y_kept overflow_kept b_kept ma_kept bits_kept ma_is mb_is bits_are overflow_is differ_is greatest_is exceeds_is =
    let some_b : 0 < length b = omega arith in
    let below_b : number (map v0 b) < 2 ^ length a = subst (λ k. number (map v0 b) < 2 ^ k) same_width (number_below v0 b) in
    let first : number (map v2 ma) ≡ unsigned_abs (signed (length a) (number (map v0 a))) = ap number ma_kept ∙ ma_is in
    let second : number (map v2 mb) ≡ unsigned_abs (signed (length a) (number (map v0 b))) = rw (b_kept, same_width) at mb_is in
    let over : v5 overflow ≡ nat_le (2 ^ length a) (unsigned_abs (signed (length a) (number (map v0 a))) * unsigned_abs (signed (length a) (number (map v0 b)))) = overflow_kept ∙ (rw (width, first, second) at overflow_is) in
    let lower : number (map v4 bits) ≡ (unsigned_abs (signed (length a) (number (map v0 a))) * unsigned_abs (signed (length a) (number (map v0 b)))) % 2 ^ length a = ap number bits_kept ∙ (rw (width, first, second) at bits_are) in
    let most : number (map v4 greatest) ≡ (if xor (v0 x) (v0 y) then 2 ^ (length a - 1) else 2 ^ (length a - 1) - 1) = rw (differ_is, x_kept, y_kept) at greatest_is in
    let above : v5 exceeds ≡ nat_lt (if xor (v0 x) (v0 y) then 2 ^ (length a - 1) else 2 ^ (length a - 1) - 1) ((unsigned_abs (signed (length a) (number (map v0 a))) * unsigned_abs (signed (length a) (number (map v0 b)))) % 2 ^ length a) = rw (most, lower) at exceeds_is in
    rw (over, above)
    (signed_product (length a) (number (map v0 a)) (number (map v0 b)) (v0 x) (v0 y) some (number_below v0 a) below_b (highest_bit v0 a x some at_x) (rw same_width at (highest_bit v0 b y some_b at_y)))
