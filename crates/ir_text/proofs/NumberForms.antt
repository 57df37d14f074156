-- Numbers: their printed text is read as the number.
use Rattle.ir_text.proofs.Common.{◌≡◌, ◌≢◌, ℕ, zero, suc, ◌+◌, ◌-◌, ◌*◌, ◌/◌, ◌%◌, ◌^◌, ◌<◌, ◌≤◌, ltb, leb, Bool, true, false, eqb, ◌&&◌, ℤ, pos, negsuc, neg_ℤ, decimal, List, [], ◌∷◌, ◌++◌, Some, refl, sym, ap, subst, ◌∙◌, ⊎_elim, eqb-true, le-leb, ltb-false, mod-lt, mod-eq_of_lt, ne_eqb, pow_mono, take, codes, arith, list_all, bytes_eq, false≢true, decimal_by_steps, fold-append, ints, list_all-append, residue, pow_doubled, are_digits, begins_with, begins_word, begins_name, is_digit, is_letter, is_name_byte, is_word, and_both, and_left, and_right, which, digit_name, list_all-along, constant_of, decimal_value, is_in_range, number_of, number_text}
use Rattle.ops.specs.Number.{Number}
use Rattle.ir_tokens.specs.Numbers.{is_number}

-- ---- digits

-- the digits spell the number
record Digits (n : ℕ) (digits : List ℕ) : Type 0 where
  are : are_digits digits ≡ true
  value : decimal_value digits ≡ n

digit_is : (d : ℕ) → d < 10 → is_digit (48 + d) ≡ true
unfolding is_digit
digit_is d less = and_both (leb 48 (48 + d)) (leb (48 + d) 57) (le-leb _ _ (omega arith)) (le-leb _ _ (omega arith))

begins_append : (p : ℕ → Bool) (xs ys : List ℕ) → begins_with p xs ≡ true → begins_with p (xs ++ ys) ≡ true
begins_append p [] ys e = absurd (false≢true e)
begins_append p (x ∷ xs) ys e = e

one_digit : (n : ℕ) → n < 10 → Digits n ((48 + n) ∷ [])
one_digit n less = record { are = and_both (is_digit (48 + n)) (is_digit (48 + n) && true) (digit_is n less) (and_both (is_digit (48 + n)) true (digit_is n less) refl); value = omega arith }

more_digits : (n : ℕ) (digits : List ℕ) → 10 ≤ n → Digits (n / 10) digits → Digits n (digits ++ (48 + n % 10) ∷ [])
more_digits n digits le h =
    let less : n % 10 < 10 = mod-lt n (omega arith) in
    let last : is_digit (48 + n % 10) ≡ true = digit_is (n % 10) less in
    record {
      are = and_both (begins_with is_digit (digits ++ (48 + n % 10) ∷ [])) (list_all is_digit (digits ++ (48 + n % 10) ∷ []))
          (begins_append is_digit digits ((48 + n % 10) ∷ []) (and_left (begins_with is_digit digits) (list_all is_digit digits) h.are))
          (list_all-append is_digit digits ((48 + n % 10) ∷ []) ∙ and_both (list_all is_digit digits) (is_digit (48 + n % 10) && true) (and_right (begins_with is_digit digits) (list_all is_digit digits) h.are) (and_both (is_digit (48 + n % 10)) true last refl));
      value = fold-append _ 0 digits ((48 + n % 10) ∷ []) ∙ (let front : decimal_value digits ≡ n / 10 = h.value in omega arith);
    }

digits_of : (n : ℕ) → n < 2 ^ 64 → Digits n (decimal n)
digits_of n less = decimal_by_steps Digits one_digit more_digits n less

pub decimal_digits : (n : ℕ) → n < 2 ^ 64 → are_digits (decimal n) ≡ true
decimal_digits n less = (digits_of n less).are

pub decimal_value-decimal : (n : ℕ) → n < 2 ^ 64 → decimal_value (decimal n) ≡ n
decimal_value-decimal n less = (digits_of n less).value

pub digits_names : (bytes : List ℕ) → are_digits bytes ≡ true → list_all is_name_byte bytes ≡ true
digits_names bytes e = list_all-along is_digit is_name_byte bytes digit_name (and_right (begins_with is_digit bytes) (list_all is_digit bytes) e)

-- the printed type has the form of a word
pub type_form : (n : ℕ) → n < 2 ^ 64 → is_word (105 ∷ decimal n) ≡ true
unfolding is_word begins_word begins_name is_letter is_name_byte is_digit
type_form n less = digits_names (decimal n) (decimal_digits n less)

-- the digits of a number that is not 0 don't begin with a 0
record NoZeroFirst (n : ℕ) (digits : List ℕ) : Type 0 where
  first : 1 ≤ n → (b : ℕ) × (rest : List ℕ) × (digits ≡ b ∷ rest) × (b ≢ 48)

one_first : (n : ℕ) → n < 10 → NoZeroFirst n ((48 + n) ∷ [])
one_first n less = record { first = λ some. (48 + n, [], refl, λ is. omega arith) }

more_first : (n : ℕ) (digits : List ℕ) → 10 ≤ n → NoZeroFirst (n / 10) digits → NoZeroFirst n (digits ++ (48 + n % 10) ∷ [])
more_first n digits le h = record {
  first = λ some.
      let (b, rest, is, other) = h.first (omega arith) in
      (b, rest ++ (48 + n % 10) ∷ [], ap (λ (ts : List ℕ). ts ++ (48 + n % 10) ∷ []) is, other);
}

first_of : (n : ℕ) → n < 2 ^ 64 → NoZeroFirst n (decimal n)
first_of n less = decimal_by_steps NoZeroFirst one_first more_first n less

pub plain_type : (n : ℕ) → 1 ≤ n → n < 2 ^ 64 → bytes_eq (take 2 (105 ∷ decimal n)) (codes "i0") ≡ false
plain_type n some less =
    let (b, rest, is, other) = (first_of n less).first some in
    rw (is, ne_eqb b 48 other) refl

-- ---- numbers

number_of-digits : (bytes : List ℕ) → are_digits bytes ≡ true → number_of bytes ≡ pos (decimal_value bytes)
unfolding number_of is_digit
number_of-digits [] e = absurd (false≢true e)
number_of-digits (b ∷ bytes) e = ⊎_elim
    (λ (h : eqb b 45 ≡ true). absurd (false≢true (sym (ap is_digit (eqb-true b 45 h)) ∙ and_left (is_digit b) (list_all is_digit (b ∷ bytes)) e)))
    (λ (h : eqb b 45 ≡ false). rw h refl)
    (which (eqb b 45))

number_of-minus : (bytes : List ℕ) → number_of (45 ∷ bytes) ≡ neg_ℤ (pos (decimal_value bytes))
unfolding number_of
number_of-minus bytes = refl

in_range-pos : (N n : ℕ) → n < 2 ^ N → is_in_range N (pos n) ≡ true
unfolding is_in_range
in_range-pos N n less = grind (arith, ints)

in_range-neg : (N k : ℕ) → suc k ≤ 2 ^ (N - 1) → is_in_range N (negsuc k) ≡ true
unfolding is_in_range
in_range-neg N k le = grind (arith, ints)

residue-pos : (N n : ℕ) → n < 2 ^ N → residue N (pos n) ≡ n
unfolding residue
residue-pos N n less = mod-eq_of_lt less

residue-neg : (N k : ℕ) → suc k ≤ 2 ^ N → residue N (negsuc k) ≡ 2 ^ N - suc k
unfolding residue
residue-neg N k le = let small : k % 2 ^ N ≡ k = mod-eq_of_lt (omega arith) in omega arith

-- the text has the form of a number and is read as n at iN
record IsWritten (N n : ℕ) (text : List ℕ) : Type 0 where
  number : is_number text ≡ true
  constant : constant_of text N ≡ Some (record { width = N; number = n })

constant_is : (text : List ℕ) (N n : ℕ) (z : ℤ) → number_of text ≡ z → is_in_range N z ≡ true → residue N z ≡ n → constant_of text N ≡ Some (record { width = N; number = n })
unfolding constant_of
constant_is text N n z is range number = rw (is, range, number) refl

plain : (N n : ℕ) → n < 2 ^ N → n < 2 ^ 64 → IsWritten N n (decimal n)
unfolding is_number
plain N n less small =
    let digits : are_digits (decimal n) ≡ true = decimal_digits n small in
    record {
      number = rw digits refl;
      constant = constant_is (decimal n) N n (pos n) (number_of-digits (decimal n) digits ∙ ap pos (decimal_value-decimal n small)) (in_range-pos N n less) (residue-pos N n less);
    }

minus : (N k : ℕ) → 1 ≤ N → suc k ≤ 2 ^ (N - 1) → suc k < 2 ^ 64 → IsWritten N (2 ^ N - suc k) (45 ∷ decimal (suc k))
unfolding is_number is_digit
minus N k some le small =
    let digits : are_digits (decimal (suc k)) ≡ true = decimal_digits (suc k) small in
    record {
      number = digits;
      constant = constant_is (45 ∷ decimal (suc k)) N (2 ^ N - suc k) (negsuc k) (number_of-minus (decimal (suc k)) ∙ ap (λ (n : ℕ). neg_ℤ (pos n)) (decimal_value-decimal (suc k) small))
          (in_range-neg N k le) (residue-neg N k (let twice : 2 ^ N ≡ 2 * 2 ^ (N - 1) = pow_doubled N some in omega arith));
    }

negative : (N n : ℕ) → 1 ≤ N → N ≤ 64 → n < 2 ^ N → 2 ^ (N - 1) ≤ n → IsWritten N n (45 ∷ decimal (2 ^ N - n))
negative N n some most fits high = by (2 ^ N - n) refl
  where
    by : (m : ℕ) → m ≡ 2 ^ N - n → IsWritten N n (45 ∷ decimal m)
    by zero e = absurd (omega arith)
    by (suc k) e =
        let half : 2 ^ (N - 1) ≤ 2 ^ 63 = pow_mono (let le : N - 1 ≤ 63 = omega arith in le) in
        let twice : 2 ^ N ≡ 2 * 2 ^ (N - 1) = pow_doubled N some in
        let same : 2 ^ N - suc k ≡ n = omega arith in
        subst (λ (i : ℕ). IsWritten N i (45 ∷ decimal (suc k))) same (minus N k some (omega arith) (omega arith))

written : (a : Number) → 2 ≤ a.width → a.width ≤ 64 → a.number < 2 ^ a.width → IsWritten a.width a.number (number_text a)
unfolding number_text
written a least most fits = ⊎_elim
    (λ (one : eqb a.width 1 ≡ true). absurd (let is : a.width ≡ 1 = eqb-true a.width 1 one in omega arith))
    (λ (more : eqb a.width 1 ≡ false). ⊎_elim
    (λ (low : ltb a.number (2 ^ (a.width - 1)) ≡ true). rw (more, low) (plain a.width a.number fits (let all : 2 ^ a.width ≤ 2 ^ 64 = pow_mono most in omega arith)))
    (λ (high : ltb a.number (2 ^ (a.width - 1)) ≡ false). rw (more, high) (negative a.width a.number (omega arith) most fits (ltb-false _ _ high)))
    (which (ltb a.number (2 ^ (a.width - 1)))))
    (which (eqb a.width 1))

pub number_form : (a : Number) → 2 ≤ a.width → a.width ≤ 64 → a.number < 2 ^ a.width → is_number (number_text a) ≡ true
number_form a least most fits = (written a least most fits).number

pub number_reads : (a : Number) → 2 ≤ a.width → a.width ≤ 64 → a.number < 2 ^ a.width → constant_of (number_text a) a.width ≡ Some a
number_reads a least most fits = (written a least most fits).constant
