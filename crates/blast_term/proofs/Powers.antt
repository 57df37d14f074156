-- The exponent of a power of two, found by a pass over its bits, the lowest first.
use Rattle.blast_term.proofs.Common.{◌≡◌, ℕ, zero, suc, ◌⊎◌, inl, inr, ◌+◌, ◌*◌, ◌^◌, ◌<◌, ◌≤◌, ◌==◌, Bool, true, false, not, ◌&&◌, if◌then◌else◌, List, Some, None, refl, sym, ap, ◌∙◌, eq-eqb, add-one, arith, eqb-true, pow-le-pow_right, pow-succ', pow-lt, pow_pos, bit, number, exponent, found, not_found}

-- n is the number of the first i bits: `none` says whether it is 0, and `one` whether it is a power of two, of k then
pub record Scanned (i n k : ℕ) (none one : Bool) : Type 0 where
  pub zero_if : none ≡ true → n ≡ 0
  pub positive_if : none ≡ false → 0 < n
  pub power : one ≡ true → (k < i) × (2 ^ k ≡ n)
  pub no_power : one ≡ false → (j : ℕ) → 2 ^ j ≡ n → ⊥

pub scanned-none : (k : ℕ) (none one : Bool) → none ≡ true → one ≡ false → Scanned 0 0 k none one
scanned-none k none one is_none is_one = record {
  zero_if = λ e. refl;
  positive_if = λ e. cc;
  power = λ e. cc;
  no_power = λ e j same. omega (arith, pow_pos j);
}

doubled_below : (i : ℕ) → 2 ^ (i + 1) ≡ 2 * 2 ^ i
doubled_below i = rw add-one (pow-succ' 2 i)

pub nat_le_cases : (a b : ℕ) → (a ≤ b) ⊎ (b + 1 ≤ a)
nat_le_cases zero b = inl (omega arith)
nat_le_cases (suc a) zero = inr (omega arith)
nat_le_cases (suc a) (suc b) = elim (nat_le_cases a b) [ inl h ↦ inl (omega arith) | inr h ↦ inr (omega arith) ]

same_number : (n : ℕ) → (n == n) ≡ true
same_number n = eq-eqb n n refl

-- no power of two lies between two that follow one another
between : (i n j : ℕ) → 0 < n → n < 2 ^ i → 2 ^ j ≡ n + 2 ^ i → ⊥
between i n j some below same =
    let two : 0 < 2 = omega arith in
    elim (nat_le_cases j i) [
      | inl low ↦ omega (arith, pow-le-pow_right two low)
      | inr high ↦ omega (arith, pow-le-pow_right two high, doubled_below i)
    ]

pub scanned-more : (i n k n' k' : ℕ) (none one b none' one' : Bool) → Scanned i n k none one → n < 2 ^ i
    → n' ≡ n + 2 ^ i * bit b → k' ≡ (if b then i else k) → one' ≡ (if b then none else one) → none' ≡ (none && not b) → Scanned (i + 1) n' k' none' one'
scanned-more i n k n' k' none one false none' one' before below is_n is_k is_one is_none =
    let same : n' ≡ n = omega arith in
    let none_same : none' ≡ none = is_none ∙ elim none as (λ x. (x && true) ≡ x) [ true ↦ refl | false ↦ refl ] in
    record {
      zero_if = λ e. same ∙ before.zero_if (sym none_same ∙ e);
      positive_if = λ e. let h = before.positive_if (sym none_same ∙ e) in omega arith;
      power = λ e. let h = before.power (sym is_one ∙ e) in (omega (arith, h.0), ap (λ x. 2 ^ x) is_k ∙ h.1 ∙ sym same);
      no_power = λ e j h. before.no_power (sym is_one ∙ e) j (h ∙ same);
    }
scanned-more i n k n' k' true one true none' one' before below is_n is_k is_one is_none =
    let zero_n : n ≡ 0 = before.zero_if refl in
    record {
      zero_if = λ e. cc;
      positive_if = λ e. omega (arith, pow_pos i);
      power = λ e. (omega arith, ap (λ x. 2 ^ x) is_k ∙ omega arith);
      no_power = λ e. cc;
    }
scanned-more i n k n' k' false one true none' one' before below is_n is_k is_one is_none =
    let some : 0 < n = before.positive_if refl in
    record {
      zero_if = λ e. cc;
      positive_if = λ e. omega (arith, pow_pos i);
      power = λ e. cc;
      no_power = λ e j h. between i n j some below (h ∙ omega arith);
    }

differ : (a b : ℕ) → (a ≡ b → ⊥) → (a == b) ≡ false
differ a b apart = elim (a == b) as (λ c. (a == b) ≡ c → c ≡ false) [ true ↦ λ e. absurd (apart (eqb-true a b e)) | false ↦ λ e. refl ] refl

pub scanned-exponent : (i n k : ℕ) (none one : Bool) → Scanned i n k none one → exponent i n ≡ (if one then Some k else None)
scanned-exponent i n k none true scanned =
    let h = scanned.power refl in
    found i n k h.0 (λ j less. differ (2 ^ j) n (λ same. omega (arith, pow-lt less, h.1))) (rw h.1 (same_number n))
scanned-exponent i n k none false scanned = not_found i n (λ j less. differ (2 ^ j) n (scanned.no_power refl j))

-- a choice between two words has the number of the word that is chosen
pub number-if : (b : Bool) (xs ys : List Bool) → number (if b then xs else ys) ≡ (if b then number xs else number ys)
number-if true xs ys = refl
number-if false xs ys = refl
