-- Signed quotients and remainders, by those of the absolute values.
use Rattle.circ_muldiv.proofs.Common.{◌≡◌, ◌≢◌, ℕ, zero, suc, ◌-◌, ◌*◌, ◌/◌, ◌%◌, ◌^◌, ◌<◌, ℤ, pos, negsuc, neg_ℤ, ◌*ℤ◌, int_lt, unsigned_abs, Bool, true, false, nat_lt, nat_le, if◌then◌else◌, List, map, length, get_or, refl, sym, ap, subst, ◌∙◌, arith, xor, nat_tests, ints, mod-eq_of_lt, mod-add-div, number, signed, remainder, quotient, residue}
use Rattle.circ_muldiv.specs.Division as division
use Rattle.circ_muldiv.proofs.Rows.{highest_bit}
use Rattle.circ_muldiv.proofs.OverflowTests.{number_below, sign_of_signed, magnitude_is}

-- a number below the range, negated modulo the range where `negative` is true
residue_of : (width n : ℕ) (negative : Bool) → n < 2 ^ width → (if negative then (2 ^ width - n) % 2 ^ width else n) ≡ residue width (if negative then neg_ℤ (pos n) else pos n)
unfolding residue
residue_of width zero true below = sym (remainder 0 (2 ^ width) 1 (2 ^ width - 0) below (omega arith)) ∙ sym (mod-eq_of_lt below)
residue_of width (suc n) true below =
    let same : n % 2 ^ width ≡ n = mod-eq_of_lt (omega arith) in
    let size : (2 ^ width - suc n) % 2 ^ width ≡ 2 ^ width - suc n = mod-eq_of_lt (omega arith) in
    rw (same, size) (omega arith)
residue_of width n false below = sym (mod-eq_of_lt below)

nothing_below : (n : ℕ) → nat_lt n 0 ≡ false
nothing_below n = grind (arith, nat_tests)

negation_times : (q b : ℕ) → neg_ℤ (pos q) *ℤ pos b ≡ neg_ℤ (pos (q * b))
negation_times zero b = omega (arith, ints)
negation_times (suc q) b = refl

negation_times_negative : (q b : ℕ) → neg_ℤ (pos q) *ℤ negsuc b ≡ pos (q * suc b)
negation_times_negative zero b = omega (arith, ints)
negation_times_negative (suc q) b = refl

-- the remainder is that of the absolute values, with the dividend's sign
pub remainder_of : (y z : ℤ) → division.remainder y z ≡ (if int_lt y (pos 0) then neg_ℤ (pos (unsigned_abs y % unsigned_abs z)) else pos (unsigned_abs y % unsigned_abs z))
unfolding mathlib.Core.Bool.xor
remainder_of (pos a) (pos b) = rw (nothing_below a, nothing_below b) (omega (arith, ints, mod-add-div a b))
remainder_of (pos a) (negsuc b) = rw (nothing_below a, negation_times_negative (a / suc b) b) (omega (arith, ints, mod-add-div a (suc b)))
remainder_of (negsuc a) (pos b) = rw (nothing_below b, negation_times (suc a / b) b) (omega (arith, ints, mod-add-div (suc a) b))
remainder_of (negsuc a) (negsuc b) = omega (arith, ints, mod-add-div (suc a) (suc b))

signed_quotient : (n a b q : ℕ) (x y : Bool) → 0 < n → a < 2 ^ n → b < 2 ^ n → q < 2 ^ n → x ≡ nat_le (2 ^ (n - 1)) a → y ≡ nat_le (2 ^ (n - 1)) b → q ≡ unsigned_abs (signed n a) / unsigned_abs (signed n b) → (if xor x y then (2 ^ n - q) % 2 ^ n else q) ≡ residue n (quotient (signed n a) (signed n b))
signed_quotient n a b q x y some below_a below_b below_q x_is y_is q_is =
    residue_of n q (xor x y) below_q
    ∙ rw (sign_of_signed n a x some below_a x_is, sign_of_signed n b y some below_b y_is, q_is) refl

signed_remainder : (n a b r : ℕ) (x : Bool) → 0 < n → a < 2 ^ n → r < 2 ^ n → x ≡ nat_le (2 ^ (n - 1)) a → r ≡ unsigned_abs (signed n a) % unsigned_abs (signed n b) → (if x then (2 ^ n - r) % 2 ^ n else r) ≡ residue n (division.remainder (signed n a) (signed n b))
signed_remainder n a b r x some below_a below_r x_is r_is =
    residue_of n r x below_r
    ∙ ap (λ z. residue n z) (sym (remainder_of (signed n a) (signed n b) ∙ rw (sign_of_signed n a x some below_a x_is, r_is) refl))

size_some : (p n : ℕ) (negative : Bool) → n < p → n ≢ 0 → (if negative then (p - n) % p else n) ≢ 0
size_some p n true below some none =
    let same : (p - n) % p ≡ p - n = mod-eq_of_lt (omega arith) in
    omega arith
size_some p n false below some none = some none

-- The words of the absolute values: what division takes them for.
module _ {L : Type 0} (v0 v1 v2 : L → Bool) (a b size_a size_b : List L) (some : 0 < length a) (same_width : length b ≡ length a) (b_kept : map v1 b ≡ map v0 b) (size_a_kept : map v2 size_a ≡ map v1 size_a) (size_a_is : number (map v1 size_a) ≡ unsigned_abs (signed (length a) (number (map v0 a)))) (size_b_is : number (map v2 size_b) ≡ unsigned_abs (signed (length b) (number (map v1 b)))) where
  size_of_a : number (map v2 size_a) ≡ unsigned_abs (signed (length a) (number (map v0 a)))
  size_of_a = ap number size_a_kept ∙ size_a_is

  size_of_b : number (map v2 size_b) ≡ unsigned_abs (signed (length a) (number (map v0 b)))
  size_of_b = size_b_is ∙ ap (λ w. unsigned_abs (signed (length b) (number w))) b_kept ∙ ap (λ n. unsigned_abs (signed n (number (map v0 b)))) same_width

  pub divisor_some : number (map v0 b) ≢ 0 → number (map v2 size_b) ≢ 0
  divisor_some nonzero none =
      let below : number (map v0 b) < 2 ^ length a = subst (λ n. number (map v0 b) < 2 ^ n) same_width (number_below v0 b) in
      let negative = nat_le (2 ^ (length a - 1)) (number (map v0 b)) in
      size_some (2 ^ length a) (number (map v0 b)) negative below nonzero (magnitude_is (length a) (number (map v0 b)) negative some below refl ∙ sym size_of_b ∙ none)

  pub absolute_quotient : (n : ℕ) → n ≡ number (map v2 size_a) / number (map v2 size_b) → n ≡ unsigned_abs (signed (length a) (number (map v0 a))) / unsigned_abs (signed (length a) (number (map v0 b)))
  absolute_quotient n is = is ∙ ap (λ k. k / number (map v2 size_b)) size_of_a ∙ ap (λ k. unsigned_abs (signed (length a) (number (map v0 a))) / k) size_of_b

  pub absolute_remainder : (n : ℕ) → n ≡ number (map v2 size_a) % number (map v2 size_b) → n ≡ unsigned_abs (signed (length a) (number (map v0 a))) % unsigned_abs (signed (length a) (number (map v0 b)))
  absolute_remainder n is = is ∙ ap (λ k. k % number (map v2 size_b)) size_of_a ∙ ap (λ k. unsigned_abs (signed (length a) (number (map v0 a))) % k) size_of_b

-- The quotient is negated where the operands' signs differ, and the remainder where the dividend is negative.
module _ {L : Type 0} (v0 v3 : L → Bool) (a b : List L) (x : L) (some : 0 < length a) (at_x : x ≡ get_or a (length a - 1) x) where
  pub quotient_value : (v4 v5 v6 : L → Bool) (divided made : List L) (y differ : L) → length b ≡ length a → y ≡ get_or b (length b - 1) y → length divided ≡ length a → v3 x ≡ v0 x → v3 y ≡ v0 y → v4 differ ≡ xor (v3 x) (v3 y) → map v4 divided ≡ map v3 divided → number (map v3 divided) ≡ unsigned_abs (signed (length a) (number (map v0 a))) / unsigned_abs (signed (length a) (number (map v0 b))) → number (map v5 made) ≡ (if v4 differ then (2 ^ length divided - number (map v4 divided)) % 2 ^ length divided else number (map v4 divided)) → map v6 made ≡ map v5 made → number (map v6 made) ≡ residue (length a) (quotient (signed (length a) (number (map v0 a))) (signed (length a) (number (map v0 b))))
  quotient_value v4 v5 v6 divided made y differ same_width at_y width x_kept y_kept differ_is divided_kept is made_is made_kept =
      let below : number (map v3 divided) < 2 ^ length a = subst (λ n. number (map v3 divided) < 2 ^ n) width (number_below v3 divided) in
      let below_b : number (map v0 b) < 2 ^ length a = subst (λ n. number (map v0 b) < 2 ^ n) same_width (number_below v0 b) in
      let sign_of_b : v0 y ≡ nat_le (2 ^ (length a - 1)) (number (map v0 b)) = highest_bit v0 b y (omega arith) at_y ∙ ap (λ n. nat_le (2 ^ (n - 1)) (number (map v0 b))) same_width in
      ap number made_kept ∙ made_is
      ∙ rw (differ_is, x_kept, y_kept, width, divided_kept) (signed_quotient (length a) (number (map v0 a)) (number (map v0 b)) (number (map v3 divided)) (v0 x) (v0 y) some (number_below v0 a) below_b below (highest_bit v0 a x some at_x) sign_of_b is)

  pub remainder_value : (v5 v6 : L → Bool) (divided made : List L) → length divided ≡ length a → v5 x ≡ v0 x → map v5 divided ≡ map v3 divided → number (map v3 divided) ≡ unsigned_abs (signed (length a) (number (map v0 a))) % unsigned_abs (signed (length a) (number (map v0 b))) → number (map v6 made) ≡ (if v5 x then (2 ^ length divided - number (map v5 divided)) % 2 ^ length divided else number (map v5 divided)) → number (map v6 made) ≡ residue (length a) (division.remainder (signed (length a) (number (map v0 a))) (signed (length a) (number (map v0 b))))
  remainder_value v5 v6 divided made width x_kept divided_kept is made_is =
      let below : number (map v3 divided) < 2 ^ length a = subst (λ n. number (map v3 divided) < 2 ^ n) width (number_below v3 divided) in
      made_is
      ∙ rw (x_kept, width, divided_kept) (signed_remainder (length a) (number (map v0 a)) (number (map v0 b)) (number (map v3 divided)) (v0 x) some (number_below v0 a) below (highest_bit v0 a x some at_x) is)

chosen_number : (b : Bool) (yes no : List Bool) → number (if b then yes else no) ≡ (if b then number yes else number no)
chosen_number true on off = refl
chosen_number false on off = refl

-- a word that is chosen between a word and its negation
pub negated_value : {L : Type 0} (old mid new : L → Bool) (word negation made : List L) (negative : L) → mid negative ≡ old negative → map mid word ≡ map old word → number (map mid negation) ≡ (2 ^ length word - number (map old word)) % 2 ^ length word → map new made ≡ (if mid negative then map mid negation else map mid word) → number (map new made) ≡ (if old negative then (2 ^ length word - number (map old word)) % 2 ^ length word else number (map old word))
negated_value old mid new word negation made negative negative_kept word_kept negation_is made_is =
    rw made_is (chosen_number (mid negative) (map mid negation) (map mid word) ∙ (rw (negation_is, negative_kept, word_kept) refl))
