-- The exponent of a power of two, found from below.
use Rattle.rule_core.proofs.Common.{◌≡◌, ◌≢◌, ℕ, zero, suc, ◌<◌, ◌≤◌, ◌*◌, ◌^◌, ◌%◌, Bool, true, false, List, length, Option, Some, None, inl, inr, refl, ap, sym, subst, ◌∙◌, arith, get_or, zero-add, eq-eqb, ◌==◌, ◌↔◌, slice_get, range_with_len, position_or_len, eqb-true, ne_eqb, cases_lt, mod-eq_of_lt, eq-or-lt_of_le, pow-lt, find_at, position_or_len_is, passes_at_first, length-range_with_len, get_or-range_with_len, slice_get-get_or, slice_get_past, slice_get_within, get_or_from_slice_get, exponent}

is_power : ℕ → ℕ → Bool
is_power a k = 2 ^ k == a

-- the search finds the least k with 2^k = a that is below N, or nothing
at_first : (N a k : ℕ) → k ≤ N → ((j : ℕ) → j < k → (2 ^ j == a) ≡ false) → (k < N → (2 ^ k == a) ≡ true) → exponent N a ≡ slice_get (range_with_len 0 N) k
unfolding exponent is_power
at_first N a k within before here =
    let read : (j : ℕ) → j < N → get_or (range_with_len 0 N) j 0 ≡ j = λ j lt. get_or-range_with_len 0 N j 0 lt ∙ zero-add j in
    let first : position_or_len (is_power a) (range_with_len 0 N) ≡ k =
    position_or_len_is (is_power a) (range_with_len 0 N) k 0 (omega (arith, length-range_with_len 0 N))
    (λ j lt. ap (is_power a) (read j (omega arith)) ∙ before j lt)
    (λ lt. let inside : k < N = omega (arith, length-range_with_len 0 N) in ap (is_power a) (read k inside) ∙ here inside) in
    find_at (is_power a) (range_with_len 0 N) ∙ ap (slice_get (range_with_len 0 N)) first

pub found : (N a k : ℕ) → k < N → ((j : ℕ) → j < k → (2 ^ j == a) ≡ false) → (2 ^ k == a) ≡ true → exponent N a ≡ Some k
found N a k within before here =
    at_first N a k (omega arith) before (λ lt. here)
    ∙ slice_get-get_or (range_with_len 0 N) k 0 (omega (arith, length-range_with_len 0 N))
    ∙ ap (λ j. Some j) (get_or-range_with_len 0 N k 0 within ∙ zero-add k)

pub not_found : (N a : ℕ) → ((j : ℕ) → j < N → (2 ^ j == a) ≡ false) → exponent N a ≡ None
not_found N a before = at_first N a N (omega arith) before (λ lt. absurd (omega arith)) ∙ slice_get_past (range_with_len 0 N) N (omega (arith, length-range_with_len 0 N))

-- an exponent that is found is below N, and a is its power of two
pub within_width : (N a k : ℕ) → exponent N a ≡ Some k → (k < N) × (a ≡ 2 ^ k)
unfolding exponent is_power
within_width N a k is =
    let places : List ℕ = range_with_len 0 N in
    let i : ℕ = position_or_len (is_power a) places in
    let at : slice_get places i ≡ Some k = sym (find_at (is_power a) places) ∙ is in
    let inside : i < length places = slice_get_within places i k at in
    let read : get_or places i 0 ≡ k = get_or_from_slice_get places i k 0 at in
    let small : i < N = omega (arith, length-range_with_len 0 N) in
    let same : i ≡ k = sym (get_or-range_with_len 0 N i 0 small ∙ zero-add i) ∙ read in
    let passes : is_power a k ≡ true = ap (is_power a) (sym read) ∙ passes_at_first (is_power a) places 0 inside in
    (omega arith, sym (eqb-true (2 ^ k) a passes))

-- a 1 shifted left by fewer than 64 bits isn't cut off at 64 bits
pub shifted : (k : ℕ) → k < 64 → 1 * 2 ^ k % 18446744073709551616 ≡ 2 ^ k
shifted k small =
    let less : 2 ^ k < 2 ^ 64 = pow-lt small in
    let below : 2 ^ k < 18446744073709551616 = omega arith in
    let stays : 2 ^ k % 18446744073709551616 ≡ 2 ^ k = mod-eq_of_lt below in
    omega arith

-- a number is below its power of two
below_power : (n : ℕ) → n < 2 ^ n
below_power zero = omega arith
below_power (suc n) = omega (arith, below_power n)

-- so an exponent that is found is a number of N bits
pub exponent_fits : (N a k : ℕ) → exponent N a ≡ Some k → k < 2 ^ N
exponent_fits N a k is = let bounds = within_width N a k is in omega (arith, bounds.0, below_power k, pow-lt bounds.0)

-- the exponent of a power of two is below N where the power is a number of iN
below_width : (N k : ℕ) → 2 ^ k < 2 ^ N → k < N
below_width N k small = elim (cases_lt k N) [
  | inl less ↦ less
  | inr ge ↦ elim (eq-or-lt_of_le ge) [
    | inl same ↦ absurd (let e : 2 ^ N ≡ 2 ^ k = ap (λ n. 2 ^ n) same in omega arith)
    | inr more ↦ absurd (let grows : 2 ^ N < 2 ^ k = pow-lt more in omega arith)
  ]
]

-- so of each power of two that is a number of iN its exponent is found
pub of_power : (N k : ℕ) → 2 ^ k < 2 ^ N → exponent N (2 ^ k) ≡ Some k
of_power N k small =
    found N (2 ^ k) k (below_width N k small)
    (λ j less. let grows : 2 ^ j < 2 ^ k = pow-lt less in ne_eqb (2 ^ j) (2 ^ k) (λ same. omega arith))
    (eq-eqb (2 ^ k) (2 ^ k) refl)

pub is_power_of : (N a : ℕ) (answer : Option ℕ) → a < 2 ^ N → answer ≡ exponent N a → (k : ℕ) → (answer ≡ Some k) ↔ (a ≡ 2 ^ k)
is_power_of N a answer small is k = (
  λ some. (within_width N a k (sym is ∙ some)).1,
  λ power. is ∙ ap (exponent N) power ∙ of_power N k (subst (λ n. n < 2 ^ N) power small),
)

none_found : (N a : ℕ) (answer : Option ℕ) → answer ≡ exponent N a → ((k : ℕ) → a ≢ 2 ^ k) → answer ≡ None
none_found N a None is no_power = refl
none_found N a (Some k) is no_power = absurd (no_power k (within_width N a k (sym is)).1)

pub is_no_power : (N a : ℕ) (answer : Option ℕ) → a < 2 ^ N → answer ≡ exponent N a → (answer ≡ None) ↔ ((k : ℕ) → a ≢ 2 ^ k)
is_no_power N a answer small is = (
  λ none k power.
      let some : answer ≡ Some k = (is_power_of N a answer small is k).1 power in
      let clash : None ≡ Some k = sym none ∙ some in
      absurd (cc),
  λ no_power. none_found N a answer is no_power,
)
