-- The values of operators and functions of terms, shown from literals.
use Rattle.blast_term.proofs.Common.{◌≡◌, ℕ, zero, suc, ◌-◌, ◌^◌, ◌%◌, ◌<◌, ◌≤◌, min, inl, inr, nat_lt, Bool, true, false, not, ◌||◌, if◌then◌else◌, List, map, length, replicate, Some, None, refl, subst, ◌∙◌, arith, mod-eq_of_lt, no_flags, bits, minus_one, least, instruction, on_poison, Sub, Xor, Value, Poison, Undefined, Gives, number, number_of, number-all_zero, Held, held_value, pow-succ', pow_pos, Negate, Not, Log2, exponent, value_given, function_value, number_or_zero}
use Rattle.blast_term.proofs.Powers.{nat_le_cases}

zero_below : (m : ℕ) → 0 < m → false ≡ nat_lt 0 m → ⊥
zero_below m some e = let less : nat_lt 0 m ≡ true = grind arith in cc

-- the number n, or poison
abbrev pub value_or_poison : Bool → ℕ → ℕ → Value
value_or_poison poison N n = if poison then Poison else bits N n

-- the value of an effect is poison where its poison bit or its undefined bit is true
pub given-value : (poison undefined either : Bool) (N n : ℕ) → either ≡ (poison || undefined)
    → value_or_poison either N n ≡ value_given (if undefined then Undefined else Gives (value_or_poison poison N n))
given-value true true either N n is = rw is refl
given-value true false either N n is = rw is refl
given-value false true either N n is = rw is refl
given-value false false either N n is = rw is refl

pub negate-value : (poison : Bool) (N n : ℕ) → value_given (instruction Sub no_flags N (bits N 0) (value_or_poison poison N n)) ≡ function_value Negate N (value_or_poison poison N n)
unfolding instruction on_poison
negate-value true N n = refl
negate-value false N n = refl

pub negate-held : {L : Type 0} (value : L → Bool) (held : Held L) (N : ℕ) → length held.bits ≡ N → value_given (instruction Sub no_flags N (bits N 0) (held_value value held)) ≡ function_value Negate N (held_value value held)
negate-held value held N is =
    subst (λ M. value_given (instruction Sub no_flags M (bits M 0) (held_value value held)) ≡ function_value Negate M (held_value value held)) is
    (negate-value (value held.poison) (length held.bits) (number_of value held.bits))

pub not-value : (poison : Bool) (N n : ℕ) → value_given (instruction Xor no_flags N (bits N (minus_one N)) (value_or_poison poison N n)) ≡ function_value Not N (value_or_poison poison N n)
unfolding instruction on_poison
not-value true N n = refl
not-value false N n = refl

pub not-held : {L : Type 0} (value : L → Bool) (held : Held L) (N : ℕ) → length held.bits ≡ N → value_given (instruction Xor no_flags N (bits N (minus_one N)) (held_value value held)) ≡ function_value Not N (held_value value held)
not-held value held N is =
    subst (λ M. value_given (instruction Xor no_flags M (bits M (minus_one M)) (held_value value held)) ≡ function_value Not M (held_value value held)) is
    (not-value (value held.poison) (length held.bits) (number_of value held.bits))

pub log-value : (poison exists either : Bool) (N n k : ℕ) → exponent N n ≡ (if exists then Some k else None) → either ≡ (poison || not exists) → value_or_poison either N k ≡ function_value Log2 N (value_or_poison poison N n)
log-value true true either N n k power is = rw is refl
log-value true false either N n k power is = rw is refl
log-value false true either N n k power is = rw (is, power) refl
log-value false false either N n k power is = rw (is, power) refl

-- a number below the least signed one is its own absolute value, and another has that of its negation
pub sign-choice : (b : Bool) (N n : ℕ) (xs ys : List Bool) → b ≡ nat_lt n (least N) → number xs ≡ n → number ys ≡ (2 ^ N - n) % 2 ^ N → number (if b then xs else ys) ≡ (if nat_lt n (least N) then n else 2 ^ N - n)
sign-choice true N n xs ys is first second = rw (← is) first
sign-choice false N n xs ys is first second =
    let some : 1 ≤ n = elim n as (λ k. false ≡ nat_lt k (least N) → 1 ≤ k) [ zero ↦ λ e. absurd (zero_below (least N) (pow_pos (N - 1)) e) | suc k ↦ λ e. omega arith ] is in
    let below : 2 ^ N - n < 2 ^ N = omega (arith, pow_pos N) in
    rw (← is) (second ∙ mod-eq_of_lt below)

below_power : (n : ℕ) → n < 2 ^ n
below_power zero = omega arith
below_power (suc n) = rw (pow-succ' 2 n) (omega (arith, below_power n))

-- six bits, or as many as the width if that is less, are enough for the place of a bit
pub places-told : (n m : ℕ) → n ≤ 64 → m ≡ min n 6 → n ≤ 2 ^ m
places-told n m low is =
    elim (nat_le_cases n 6) [
      | inl small ↦ let same : m ≡ n = omega arith in rw same (omega (arith, below_power n))
      | inr large ↦ let six : m ≡ 6 = omega arith in rw six (omega arith)
    ]

-- a word, or zeros where its poison bit is true
pub or_zero-word : {L : Type 0} (value : L → Bool) (held : Held L) (zeros : List L) (n : ℕ) (low : L) → zeros ≡ replicate n low → value low ≡ false
    → number (if value held.poison then map value zeros else map value held.bits) ≡ number_or_zero (held_value value held)
or_zero-word value held zeros n low are none =
    elim (value held.poison) as (λ b. number (if b then map value zeros else map value held.bits) ≡ number_or_zero (if b then Poison else bits (length held.bits) (number (map value held.bits)))) [
      | true ↦ rw are (number-all_zero value n low none)
      | false ↦ refl
    ]
