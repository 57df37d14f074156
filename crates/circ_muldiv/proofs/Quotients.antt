-- The quotient and the remainder after some steps of a restoring division.
use Rattle.circ_muldiv.proofs.Common.{◌≡◌, ◌≢◌, ℕ, ◌+◌, ◌-◌, ◌*◌, ◌/◌, ◌%◌, ◌^◌, ◌<◌, ◌≤◌, Bool, true, false, not, nat_le, if◌then◌else◌, List, [], ◌∷◌, ◌++◌, map, reverse, length, take, drop, get_or, replicate, refl, sym, ap, subst, ◌∙◌, add-one, arith, All, Result, Ok, Err, IfOk, nat_tests, reverse_onto, map-append, length-map, length_push, length-replicate, length-reverse, reverse-append, drop_more, drop_all, All-push, All-replicate, All-permutation, IsPermutation-reverse, div-mul-add, mod-mul-add, pow-succ', mod-eq_of_lt, Ghosts, Adds, bit, number, own_at, All-kept, map-kept, Adds-refl, Adds-trans, Adds-weaken, bit-le_one, number-below, number-all_zero, number-cut, number-map_not, number-push, division_step_gates, division_gates}
use Rattle.circ_muldiv.proofs.OverflowTests.{number_below}

-- The sum with the divisor's complement carries exactly where the divisor fits, and is then the difference.
step_number : (s p longer negated b : ℕ) (carry : Bool) → s < 2 * p → negated + b + 1 ≡ 2 * p → s + (2 * p) * bit carry ≡ longer + negated + 1 → (carry ≡ nat_le b longer) × (b ≤ longer → s ≡ longer - b)
step_number s p longer negated b true below complement total =
    let fits : nat_le b longer ≡ true = grind (arith, nat_tests) in
    (sym fits, λ within. omega arith)
step_number s p longer negated b false below complement total =
    let exceeds : nat_le b longer ≡ false = grind (arith, nat_tests) in
    (sym exceeds, λ within. absurd (omega arith))

chosen_left : (s longer b : ℕ) (carry : Bool) → carry ≡ nat_le b longer → (b ≤ longer → s ≡ longer - b) → (if carry then s else longer) ≡ (if nat_le b longer then longer - b else longer)
chosen_left s longer b true is left =
    let within : b ≤ longer = grind (arith, nat_tests) in
    rw (← is) (left within)
chosen_left s longer b false is left = rw (← is) refl

cut_choice : {L : Type 0} (value : L → Bool) (n : ℕ) (condition : Bool) (yes no : List L) → n ≤ length yes → n ≤ length no → number (if condition then map value (take n yes) else map value (take n no)) ≡ (if condition then number (map value yes) else number (map value no)) % 2 ^ n
cut_choice value n true on off in_on in_off = number-cut value on n in_on
cut_choice value n false on off in_on in_off = number-cut value off n in_off

-- two facts about a result, taken together
pub both_ok : {T E : Type 0} (r : Result T E) (P Q R : T → Type 0) → ((x : T) → P x → Q x → R x) → IfOk r P → IfOk r Q → IfOk r R
both_ok (Ok x) P Q R f p q = f x p q
both_ok (Err e) P Q R f p q = tt

-- the difference over words: the longer word, and the divisor's complement, have one more bit than the divisor
module _ {L : Type 0} (old new : L → Bool) (longer divisor negated bits : List L) (top carry first : L) (negated_width : length negated ≡ length divisor) (width : length bits ≡ length divisor + 1) (negated_is : map old negated ≡ map not (map old divisor)) (top_is : old top ≡ true) (first_is : old first ≡ true) (total : number (map new bits) + 2 ^ (length divisor + 1) * bit (new carry) ≡ number (map old longer) + number (map old (negated ++ top ∷ [])) + bit (old first)) where
  complement : number (map old (negated ++ top ∷ [])) + number (map old divisor) + 1 ≡ 2 * 2 ^ length divisor
  complement =
      let places : length (map not (map old divisor)) ≡ length divisor = length-map (map old divisor) not ∙ length-map divisor old in
      let table : number (map not (map old divisor)) + number (map old divisor) + 1 ≡ 2 ^ length divisor = number-map_not (map old divisor) ∙ ap (λ n. 2 ^ n) (length-map divisor old) in
      rw (map-append old negated (top ∷ []), negated_is, top_is, number-push (map not (map old divisor)) true, places) (omega (arith, table))

  pub taken : (new carry ≡ nat_le (number (map old divisor)) (number (map old longer))) × (number (map old divisor) ≤ number (map old longer) → number (map new bits) ≡ number (map old longer) - number (map old divisor))
  taken =
      let doubled : 2 ^ (length divisor + 1) ≡ 2 * 2 ^ length divisor = rw add-one (pow-succ' 2 (length divisor)) in
      let bits_width : length (map new bits) ≡ length divisor + 1 = length-map bits new ∙ width in
      let below : number (map new bits) < 2 * 2 ^ length divisor = rw (bits_width, doubled) at (number-below (map new bits)) in
      step_number (number (map new bits)) (2 ^ length divisor) (number (map old longer)) (number (map old (negated ++ top ∷ []))) (number (map old divisor)) (new carry) below complement
      (rw (doubled, first_is) at total)

-- One step over words: the remainder with the dividend's next digit as its lowest bit is one bit longer.
pub step_left : {L : Type 0} (old mid new : L → Bool) (divisor remainder bits word : List L) (digit carry : L) → length remainder ≡ length divisor → length bits ≡ length divisor + 1 → mid carry ≡ nat_le (number (map old divisor)) (bit (old digit) + 2 * number (map old remainder)) → (number (map old divisor) ≤ bit (old digit) + 2 * number (map old remainder) → number (map mid bits) ≡ bit (old digit) + 2 * number (map old remainder) - number (map old divisor)) → mid digit ≡ old digit → map mid remainder ≡ map old remainder → map new word ≡ (if mid carry then map mid (take (length divisor) bits) else map mid (take (length divisor) (digit ∷ remainder))) → let longer = bit (old digit) + 2 * number (map old remainder) in let taken = number (map old divisor) in number (map new word) ≡ (if nat_le taken longer then longer - taken else longer) % 2 ^ length divisor
step_left old mid new divisor remainder bits word digit carry same_width width fits left digit_kept remainder_kept word_is =
    rw word_is
    (cut_choice mid (length divisor) (mid carry) bits (digit ∷ remainder) (omega arith) (omega arith)
    ∙ ap (λ n. n % 2 ^ length divisor) (rw (digit_kept, remainder_kept) (chosen_left (number (map mid bits)) (bit (old digit) + 2 * number (map old remainder)) (number (map old divisor)) (mid carry) fits left)))

reverse_push : {X : Type 0} (xs : List X) (x : X) → reverse (xs ++ x ∷ []) ≡ x ∷ reverse xs
reverse_push xs x = reverse-append xs (x ∷ [])

pub map-reverse : {X Y : Type 0} (f : X → Y) (xs : List X) → map f (reverse xs) ≡ reverse (map f xs)
map-reverse f [] = refl
map-reverse f (x ∷ xs) = rw (reverse_onto xs x [], reverse_onto (map f xs) (f x) [], map-append f (reverse xs) (x ∷ []), map-reverse f xs) refl

-- one step over numbers
step_more : (higher b q r left p : ℕ) (digit fits : Bool) → r < b → b < p → fits ≡ nat_le b (bit digit + 2 * r) → left ≡ (if nat_le b (bit digit + 2 * r) then bit digit + 2 * r - b else bit digit + 2 * r) % p → higher ≡ b * q + r → (bit digit + 2 * higher ≡ b * (bit fits + 2 * q) + left) × (left < b)
step_more higher b q r left p digit true below range fits_is left_is before =
    let fits : b ≤ bit digit + 2 * r = grind (arith, nat_tests) in
    let small : bit digit + 2 * r - b < b = omega (arith, bit-le_one digit) in
    let whole : left ≡ bit digit + 2 * r - b = rw (← fits_is) at left_is ∙ mod-eq_of_lt (omega arith) in
    (omega arith, omega arith)
step_more higher b q r left p digit false below range fits_is left_is before =
    let small : bit digit + 2 * r < b = grind (arith, nat_tests) in
    let whole : left ≡ bit digit + 2 * r = rw (← fits_is) at left_is ∙ mod-eq_of_lt (omega arith) in
    (omega arith, omega arith)

-- After the steps for the bits of a from the highest down to place i: the quotient, its highest bit first, and the
-- remainder, of the number that these bits are.
pub record Stepped {C L : Type 0} (state : Ghosts C L) (start now : C) (a b quotient remainder : List L) (i : ℕ) : Type 0 where
  pub adds : Adds state start now (division_step_gates (length b) * (length a - i))
  pub own_quotient : All (state.has_literal now) quotient
  pub own_remainder : All (state.has_literal now) remainder
  pub quotient_width : length quotient ≡ length a - i
  pub remainder_width : length remainder ≡ length b
  pub divided : (inputs : List Bool) → state.admits start inputs → number (map (state.value start inputs) b) ≢ 0 → (number (map (state.value start inputs) (drop i a)) ≡ number (map (state.value start inputs) b) * number (reverse (map (state.value now inputs) quotient)) + number (map (state.value now inputs) remainder)) × (number (map (state.value now inputs) remainder) < number (map (state.value start inputs) b))

gates_more : (gates n i : ℕ) → 0 < i → i ≤ n → gates * (n - i) + gates ≤ gates * (n - (i - 1))
gates_more gates n i some within =
    let more : n - (i - 1) ≡ n - i + 1 = omega arith in
    rw more (omega arith)

gates_in_all : (gates done left : ℕ) → gates * done + gates ≤ (done + 1 + left) * gates
gates_in_all gates done left = omega arith

gates_within : (gates n i : ℕ) → 0 < i → i ≤ n → gates * (n - i) + gates ≤ n * gates
gates_within gates n i some within =
    let whole : n - i + 1 + (i - 1) ≡ n = omega arith in
    subst (λ m. gates * (n - i) + gates ≤ m * gates) whole (gates_in_all gates (n - i) (i - 1))

gates_end : (gates n i : ℕ) → i ≡ 0 → gates * (n - i) ≤ n * gates
gates_end gates n i none =
    let whole : n - i ≡ n = omega arith in
    rw whole (omega arith)

module _ {C L : Type 0} {state : Ghosts C L} {start : C} {a b : List L} where
  pub stepped_init : (quotient remainder : List L) (zero_literal : L) (i : ℕ) → quotient ≡ [] → remainder ≡ replicate i zero_literal → i ≡ length a → length b ≡ length a → state.has_literal start zero_literal → ((inputs : List Bool) → state.admits start inputs → state.value start inputs zero_literal ≡ false) → Stepped state start start a b quotient remainder i
  stepped_init quotient remainder zero_literal i none zeros all same_width own_zero zero_is = record {
    adds = Adds-weaken Adds-refl (omega arith);
    own_quotient = rw none (λ k d below. absurd (omega arith));
    own_remainder = rw zeros (All-replicate (state.has_literal start) i zero_literal own_zero);
    quotient_width = rw none (omega arith);
    remainder_width = ap length zeros ∙ length-replicate i zero_literal ∙ all ∙ sym same_width;
    divided = λ inputs admitted some.
        let nothing_left : drop i a ≡ [] = drop_all i a (omega arith) in
        let no_remainder : number (map (state.value start inputs) remainder) ≡ 0 = rw zeros (number-all_zero (state.value start inputs) i zero_literal (zero_is inputs admitted)) in
        rw (none, nothing_left, no_remainder) (omega arith, omega arith);
  }

  -- one more step
  pub stepped_more : {now next : C} {quotient remainder : List L} {i : ℕ} (left : List L) (digit fits : L) → Stepped state start now a b quotient remainder i → 0 < i → i ≤ length a → All (state.has_literal start) a → All (state.has_literal start) b → digit ≡ get_or a (i - 1) digit → Adds state now next (division_step_gates (length b)) → state.has_literal next fits → All (state.has_literal next) left → length left ≡ length b → ((inputs : List Bool) → state.admits now inputs → state.value next inputs fits ≡ nat_le (number (map (state.value now inputs) b)) (bit (state.value now inputs digit) + 2 * number (map (state.value now inputs) remainder))) → ((inputs : List Bool) → state.admits now inputs → let longer = bit (state.value now inputs digit) + 2 * number (map (state.value now inputs) remainder) in let taken = number (map (state.value now inputs) b) in number (map (state.value next inputs) left) ≡ (if nat_le taken longer then longer - taken else longer) % 2 ^ length b) → Stepped state start next a b (quotient ++ fits ∷ []) left (i - 1)
  stepped_more {now = now} {next = next} {quotient = quotient} {remainder = remainder} {i = i} left digit fits before some within own_a own_b at_digit adds own_fits own_left width fits_is left_is = record {
    adds = Adds-weaken (Adds-trans before.adds adds) (gates_more (division_step_gates (length b)) (length a) i some within);
    own_quotient = All-push (state.has_literal next) quotient fits (All-kept adds.keeps quotient before.own_quotient) own_fits;
    own_remainder = own_left;
    quotient_width = let width : length quotient ≡ length a - i = before.quotient_width in length_push quotient fits ∙ omega arith;
    remainder_width = width;
    divided = λ inputs admitted divisor_some.
        let now_admitted = before.adds.keeps.admitted inputs admitted in
        let earlier = before.divided inputs admitted divisor_some in
        let digit_kept = before.adds.keeps.values inputs digit admitted (own_at (state.has_literal start) a (i - 1) digit own_a (omega arith) at_digit) in
        let b_kept = map-kept before.adds.keeps inputs admitted b own_b in
        let quotient_kept = map-kept adds.keeps inputs now_admitted quotient before.own_quotient in
        let place : i - 1 + 1 ≡ i = omega arith in
        let opened : drop (i - 1) a ≡ digit ∷ drop i a = drop_more a (i - 1) digit (omega arith) ∙ ap (λ d. d ∷ drop (i - 1 + 1) a) (sym at_digit) ∙ ap (λ k. digit ∷ drop k a) place in
        let reversed : reverse (map (state.value next inputs) (quotient ++ fits ∷ [])) ≡ state.value next inputs fits ∷ reverse (map (state.value now inputs) quotient) =
        rw (map-append (state.value next inputs) quotient (fits ∷ []), quotient_kept) (reverse_push (map (state.value now inputs) quotient) (state.value next inputs fits)) in
        rw (opened, reversed)
        (step_more (number (map (state.value start inputs) (drop i a))) (number (map (state.value start inputs) b)) (number (reverse (map (state.value now inputs) quotient))) (number (map (state.value now inputs) remainder)) (number (map (state.value next inputs) left)) (2 ^ length b) (state.value start inputs digit) (state.value next inputs fits) earlier.1 (number_below (state.value start inputs) b)
        (rw (b_kept, digit_kept) at (fits_is inputs now_admitted)) (rw (b_kept, digit_kept) at (left_is inputs now_admitted)) earlier.0);
  }

  -- The gates of a step that may stop in the middle stay within the bound of the whole.
  pub stepped_within : {now next : C} {quotient remainder : List L} {i : ℕ} → Stepped state start now a b quotient remainder i → 0 < i → i ≤ length a → length b ≡ length a → Adds state now next (division_step_gates (length b)) → Adds state start next (division_gates (length a))
  stepped_within {i = i} before some within same_width adds =
      Adds-weaken (Adds-trans before.adds adds) (rw same_width (gates_within (division_step_gates (length a)) (length a) i some within))

  -- after the steps for all bits, the gates are within the bound
  pub stepped_adds : {now : C} {quotient remainder : List L} {i : ℕ} → Stepped state start now a b quotient remainder i → i ≡ 0 → length b ≡ length a → Adds state start now (division_gates (length a))
  stepped_adds {i = i} done none same_width = Adds-weaken done.adds (rw same_width (gates_end (division_step_gates (length a)) (length a) i none))

  pub stepped_own : {now : C} {quotient remainder : List L} {i : ℕ} (turned : List L) → Stepped state start now a b quotient remainder i → turned ≡ reverse quotient → All (state.has_literal now) turned
  stepped_own {now = now} {quotient = quotient} turned done is = rw is (All-permutation (state.has_literal now) quotient (reverse quotient) (IsPermutation-reverse quotient) done.own_quotient)

  pub stepped_width : {now : C} {quotient remainder : List L} {i : ℕ} (turned : List L) → Stepped state start now a b quotient remainder i → i ≡ 0 → turned ≡ reverse quotient → length turned ≡ length a
  stepped_width {quotient = quotient} {i = i} turned done none is =
      let width : length quotient ≡ length a - i = done.quotient_width in
      ap length is ∙ length-reverse quotient ∙ omega arith

  whole_parts : {now : C} {quotient remainder : List L} {i : ℕ} (turned : List L) → Stepped state start now a b quotient remainder i → i ≡ 0 → turned ≡ reverse quotient → (inputs : List Bool) → state.admits start inputs → number (map (state.value start inputs) b) ≢ 0 → number (map (state.value start inputs) a) ≡ number (map (state.value now inputs) turned) * number (map (state.value start inputs) b) + number (map (state.value now inputs) remainder)
  whole_parts {now = now} {quotient = quotient} {i = i} turned done none is inputs admitted some =
      let whole : number (map (state.value start inputs) (drop i a)) ≡ number (map (state.value start inputs) a) = ap (λ k. number (map (state.value start inputs) (drop k a))) none in
      rw (is, map-reverse (state.value now inputs) quotient) (omega (arith, whole, (done.divided inputs admitted some).0))

  pub stepped_quotient : {now : C} {quotient remainder : List L} {i : ℕ} (turned : List L) → Stepped state start now a b quotient remainder i → i ≡ 0 → turned ≡ reverse quotient → (inputs : List Bool) → state.admits start inputs → number (map (state.value start inputs) b) ≢ 0 → number (map (state.value now inputs) turned) ≡ number (map (state.value start inputs) a) / number (map (state.value start inputs) b)
  stepped_quotient {now = now} {remainder = remainder} turned done none is inputs admitted some =
      rw (whole_parts turned done none is inputs admitted some) (sym (div-mul-add (number (map (state.value now inputs) turned)) (number (map (state.value start inputs) b)) (number (map (state.value now inputs) remainder)) (done.divided inputs admitted some).1))

  pub stepped_remainder : {now : C} {quotient remainder : List L} {i : ℕ} (turned : List L) → Stepped state start now a b quotient remainder i → i ≡ 0 → turned ≡ reverse quotient → (inputs : List Bool) → state.admits start inputs → number (map (state.value start inputs) b) ≢ 0 → number (map (state.value now inputs) remainder) ≡ number (map (state.value start inputs) a) % number (map (state.value start inputs) b)
  stepped_remainder {now = now} {remainder = remainder} turned done none is inputs admitted some =
      rw (whole_parts turned done none is inputs admitted some) (sym (mod-mul-add (number (map (state.value now inputs) turned)) (number (map (state.value start inputs) b)) (number (map (state.value now inputs) remainder)) (done.divided inputs admitted some).1))
