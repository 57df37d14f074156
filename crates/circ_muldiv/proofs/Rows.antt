-- The product after some of its rows.
use Rattle.circ_muldiv.proofs.Common.{◌≡◌, ℕ, zero, suc, ◌+◌, ◌-◌, ◌*◌, ◌/◌, ◌%◌, ◌^◌, ◌<◌, ◌≤◌, Bool, true, false, ◌&&◌, ◌||◌, nat_lt, nat_le, List, map, length, take, get_or, sym, ap, subst, ⊎_elim, ◌∙◌, arith, add-one, All, cases_lt, nat_tests, length-map, take_all, pow-add, pow_pos, pow-succ', mod-eq_of_lt, Ghosts, Adds, bit, number, own_at, All-kept, map-kept, Keeps-trans, Adds-trans, Adds-weaken, remainder, number-below, number-cut, number-take_more, product_gates, row_gates}

-- the whole product after one more row: the product before is sum + q * r * over, and the word is low + r * high
row_total : (q r low high lower digit sum next carry over : ℕ) → next + (q * r) * carry ≡ sum + q * (digit * low) → (q * r) * over + sum ≡ (low + r * high) * lower → next + (q * r) * (carry + over + digit * high) ≡ (low + r * high) * (lower + q * digit)
row_total q r low high lower digit sum next carry over row before = omega arith

-- a number is at least p exactly where its quotient by p isn't 0
reaches : (p s m : ℕ) → s < p → nat_le p (s + p * m) ≡ nat_lt 0 m
reaches p s zero below = grind (arith, nat_tests)
reaches p s (suc m) below = grind (arith, nat_tests)

any_lost : (carry digit : Bool) (over high : ℕ) → nat_lt 0 (bit carry + over + bit digit * high) ≡ ((nat_lt 0 over || carry) || (digit && nat_lt 0 high))
any_lost true true over high = grind (arith, nat_tests)
any_lost true false over high = grind (arith, nat_tests)
any_lost false true over high = grind (arith, nat_tests)
any_lost false false over high = grind (arith, nat_tests)

-- One row, where q is the power of 2 of its place, r bounds the values of the bits above that are left, and q * r is
-- the range.
module _ (q r a lower sum next : ℕ) (digit carry : Bool) (some : 0 < r) (range : 0 < q * r) (sum_is : sum ≡ (a * lower) % (q * r)) (below : next < q * r) (row : next + (q * r) * bit carry ≡ sum + q * (bit digit * (a % r))) where
  over : ℕ
  over = (a * lower) / (q * r)

  parts : a % r + r * (a / r) ≡ a
  parts = omega arith

  whole : next + (q * r) * (bit carry + over + bit digit * (a / r)) ≡ a * (lower + q * bit digit)
  unfolding over
  whole =
      let before : (q * r) * ((a * lower) / (q * r)) + sum ≡ a * lower = omega arith in
      subst (λ n. next + (q * r) * (bit carry + (a * lower) / (q * r) + bit digit * (a / r)) ≡ n * (lower + q * bit digit)) parts
      (row_total q r (a % r) (a / r) lower (bit digit) sum next (bit carry) ((a * lower) / (q * r)) row (before ∙ ap (λ n. n * lower) (sym parts)))

  pub row_number : next ≡ (a * (lower + q * bit digit)) % (q * r)
  row_number = remainder next (q * r) (bit carry + over + bit digit * (a / r)) _ below whole

  pub row_overflow : nat_le (q * r) (a * (lower + q * bit digit)) ≡ ((nat_le (q * r) (a * lower) || carry) || (digit && nat_le r a))
  unfolding over
  row_overflow =
      let before : (a * lower) % (q * r) + (q * r) * ((a * lower) / (q * r)) ≡ a * lower = omega arith in
      let earlier : nat_le (q * r) (a * lower) ≡ nat_lt 0 ((a * lower) / (q * r)) = ap (λ n. nat_le (q * r) n) (sym before) ∙ reaches (q * r) ((a * lower) % (q * r)) ((a * lower) / (q * r)) (omega arith) in
      let dropped : nat_le r a ≡ nat_lt 0 (a / r) = ap (λ n. nat_le r n) (sym parts) ∙ reaches r (a % r) (a / r) (omega arith) in
      rw (← whole, reaches (q * r) next (bit carry + (a * lower) / (q * r) + bit digit * (a / r)) below, earlier, dropped) (any_lost carry digit ((a * lower) / (q * r)) (a / r))

-- a number is at least p where it is at least 2 * p, or its bit that counts p is true
bit_reaches : (p n : ℕ) (x : Bool) → 0 < p → n % (2 * p) ≡ n % p + p * bit x → nat_le p n ≡ (nat_le (2 * p) n || x)
bit_reaches p n true some e =
    let least : n % (2 * p) ≤ n = omega arith in
    grind (arith, nat_tests)
bit_reaches p n false some e =
    ⊎_elim
    (λ (low : n < 2 * p).
    let same : n % (2 * p) ≡ n = mod-eq_of_lt low in
    let less : n % p < p = omega arith in
    grind (arith, nat_tests))
    (λ (high : 2 * p ≤ n). grind (arith, nat_tests))
    (cases_lt n (2 * p))

pub bit_above : {L : Type 0} (value : L → Bool) (a : List L) (j : ℕ) (x : L) → j < length a → x ≡ get_or a j x → nat_le (2 ^ j) (number (map value a)) ≡ (nat_le (2 ^ (j + 1)) (number (map value a)) || value x)
bit_above value a j x inside at_x =
    let doubled : 2 ^ (j + 1) ≡ 2 * 2 ^ j = ap (λ k. 2 ^ k) (add-one j) ∙ pow-succ' 2 j in
    let more : number (map value a) % 2 ^ (j + 1) ≡ number (map value a) % 2 ^ j + 2 ^ j * bit (value x) = sym (number-cut value a (j + 1) (omega arith)) ∙ number-take_more value a j x inside at_x ∙ ap (λ n. n + 2 ^ j * bit (value x)) (number-cut value a j (omega arith)) in
    rw doubled (bit_reaches (2 ^ j) (number (map value a)) (value x) (pow_pos j) (rw doubled at more))

-- the highest bit says whether a number is in the upper half of its range
pub highest_bit : {L : Type 0} (value : L → Bool) (a : List L) (x : L) → 0 < length a → x ≡ get_or a (length a - 1) x → value x ≡ nat_le (2 ^ (length a - 1)) (number (map value a))
highest_bit value a x some at_x =
    let last : length a - 1 + 1 ≡ length a = omega arith in
    let below : number (map value a) < 2 ^ length a = subst (λ k. number (map value a) < 2 ^ k) (length-map a value) (number-below (map value a)) in
    let none : nat_le (2 ^ (length a - 1 + 1)) (number (map value a)) ≡ false = rw last (grind (arith, nat_tests)) in
    sym (bit_above value a (length a - 1) x (omega arith) at_x ∙ ap (λ t. t || value x) none)

-- the gates of all rows of up to this width
pub later_gates : ℕ → ℕ
later_gates width = 3 * width * (width + 1) + 4 * width

used_at : (m j : ℕ) → (product_gates (m + 2 + j) - later_gates (m + 1)) + row_gates (m + 1) + 3 + 1 ≤ product_gates (m + 2 + j) - later_gates m
unfolding later_gates
used_at m j =
    let rest : m + 2 + j - 1 ≡ m + 1 + j = omega arith in
    rw rest (omega arith)

pub used_more : (n i : ℕ) → 0 < i → i < n → (product_gates n - later_gates (n - i)) + row_gates (n - i) + 3 + 1 ≤ product_gates n - later_gates (n - (i + 1))
used_more n i some inside =
    let whole : n - (i + 1) + 2 + (i - 1) ≡ n = omega arith in
    let row : n - (i + 1) + 1 ≡ n - i = omega arith in
    subst (λ k. (product_gates n - later_gates k) + row_gates k + 3 + 1 ≤ product_gates n - later_gates (n - (i + 1))) row
    (subst (λ k. (product_gates k - later_gates (n - (i + 1) + 1)) + row_gates (n - (i + 1) + 1) + 3 + 1 ≤ product_gates k - later_gates (n - (i + 1))) whole (used_at (n - (i + 1)) (i - 1)))

-- After the rows for the lowest i bits of b: the product of a and these bits modulo the range, whether it overflows,
-- and whether a, shifted to the place of the next row, has a true bit past the width.
pub record Multiplied {C L : Type 0} (state : Ghosts C L) (start now : C) (a b bits : List L) (overflow past : L) (i : ℕ) : Type 0 where
  pub adds : Adds state start now (product_gates (length a) - later_gates (length a - i))
  pub own_bits : All (state.has_literal now) bits
  pub own_overflow : state.has_literal now overflow
  pub own_past : state.has_literal now past
  pub width : length bits ≡ length a
  pub product : (inputs : List Bool) → state.admits start inputs → number (map (state.value now inputs) bits) ≡ (number (map (state.value start inputs) a) * number (map (state.value start inputs) (take i b))) % 2 ^ length a
  pub overflows : (inputs : List Bool) → state.admits start inputs → state.value now inputs overflow ≡ nat_le (2 ^ length a) (number (map (state.value start inputs) a) * number (map (state.value start inputs) (take i b)))
  pub shifted_out : (inputs : List Bool) → state.admits start inputs → state.value now inputs past ≡ nat_le (2 ^ (length a - i)) (number (map (state.value start inputs) a))

first_gates : (n : ℕ) → 0 < n → n ≤ product_gates n - later_gates (n - 1)
unfolding later_gates
first_gates n some =
    let rest : n - 1 + 1 ≡ n = omega arith in
    rw rest (omega arith)

first_row : (n a d : ℕ) (x : Bool) → a < 2 ^ n → d ≡ 0 + 2 ^ 0 * bit x → (bit x * a ≡ (a * d) % 2 ^ n) × (false ≡ nat_le (2 ^ n) (a * d))
first_row n a d true below is =
    let one : d ≡ 1 = omega arith in
    rw one (remainder (1 * a) (2 ^ n) 0 (a * 1) (omega arith) (omega arith), grind (arith, nat_tests))
first_row n a d false below is =
    let none : d ≡ 0 = omega arith in
    rw none (remainder (0 * a) (2 ^ n) 0 (a * 0) (omega arith) (omega arith), grind (arith, nat_tests))

-- the first row is a, masked by the lowest bit of b
pub multiplied_init : {C L : Type 0} {state : Ghosts C L} {start now : C} (a b bits : List L) (digit zero_literal top : L) → 0 < length a → length b ≡ length a → All (state.has_literal start) a → digit ≡ get_or b 0 digit → top ≡ get_or a (length a - 1) top → Adds state start now (length a) → All (state.has_literal now) bits → length bits ≡ length a → ((inputs : List Bool) → state.admits start inputs → number (map (state.value now inputs) bits) ≡ bit (state.value start inputs digit) * number (map (state.value start inputs) a)) → state.has_literal now zero_literal → ((inputs : List Bool) → state.admits now inputs → state.value now inputs zero_literal ≡ false) → Multiplied state start now a b bits zero_literal top 1
multiplied_init {state = state} {start = start} {now = now} a b bits digit zero_literal top some same_width own_a at_digit at_top adds own_bits width bits_are own_zero zero_is =
    let facts = λ (inputs : List Bool).
    let below : number (map (state.value start inputs) a) < 2 ^ length a = subst (λ k. number (map (state.value start inputs) a) < 2 ^ k) (length-map a (state.value start inputs)) (number-below (map (state.value start inputs) a)) in
    first_row (length a) (number (map (state.value start inputs) a)) (number (map (state.value start inputs) (take 1 b))) (state.value start inputs digit) below (number-take_more (state.value start inputs) b 0 digit (omega arith) at_digit) in
    record {
      adds = Adds-weaken adds (first_gates (length a) some);
      own_bits = own_bits;
      own_overflow = own_zero;
      own_past = adds.keeps.literals top (own_at (state.has_literal start) a (length a - 1) top own_a (omega arith) at_top);
      width = width;
      product = λ inputs admitted. bits_are inputs admitted ∙ (facts inputs).0;
      overflows = λ inputs admitted. zero_is inputs (adds.keeps.admitted inputs admitted) ∙ (facts inputs).1;
      shifted_out = λ inputs admitted. adds.keeps.values inputs top admitted (own_at (state.has_literal start) a (length a - 1) top own_a (omega arith) at_top) ∙ highest_bit (state.value start inputs) a top some at_top;
    }

-- one more row
pub multiplied_more : {C L : Type 0} {state : Ghosts C L} {start now s1 s2 s3 : C} {a b bits : List L} {overflow past : L} {i : ℕ} (row : List L) (digit lower carry lost next : L) → Multiplied state start now a b bits overflow past i → 0 < i → i < length a → length b ≡ length a → All (state.has_literal start) a → All (state.has_literal start) b → digit ≡ get_or b i digit → lower ≡ get_or a (length a - 1 - i) lower → Adds state now s1 (row_gates (length a - i)) → Adds state s1 s2 3 → Adds state s2 s3 1 → All (state.has_literal s1) row → state.has_literal s1 carry → length row ≡ length a → state.has_literal s2 lost → state.has_literal s3 next → ((inputs : List Bool) → state.admits now inputs → number (map (state.value s1 inputs) row) + 2 ^ length a * bit (state.value s1 inputs carry) ≡ number (map (state.value now inputs) bits) + 2 ^ i * (bit (state.value now inputs digit) * (number (map (state.value now inputs) a) % 2 ^ (length a - i)))) → ((inputs : List Bool) → state.admits s1 inputs → state.value s2 inputs lost ≡ ((state.value s1 inputs overflow || state.value s1 inputs carry) || (state.value s1 inputs digit && state.value s1 inputs past))) → ((inputs : List Bool) → state.admits s2 inputs → state.value s3 inputs next ≡ (state.value s2 inputs past || state.value s2 inputs lower)) → Multiplied state start s3 a b row lost next (i + 1)
multiplied_more {state = state} {start = start} {now = now} {s1 = s1} {s2 = s2} {s3 = s3} {a = a} {b = b} {bits = bits} {overflow = overflow} {past = past} {i = i} row digit lower carry lost next before some inside same_width own_a own_b at_digit at_lower first second third own_row own_carry width own_lost own_next row_is lost_is next_is =
    let own_digit = own_at (state.has_literal start) b i digit own_b (omega arith) at_digit in
    let own_lower = own_at (state.has_literal start) a (length a - 1 - i) lower own_a (omega arith) at_lower in
    let to_s1 = Keeps-trans before.adds.keeps first.keeps in
    let to_s2 = Keeps-trans to_s1 second.keeps in
    let later = Keeps-trans second.keeps third.keeps in
    let whole : i + (length a - i) ≡ length a = omega arith in
    let range : 2 ^ length a ≡ 2 ^ i * 2 ^ (length a - i) = ap (λ k. 2 ^ k) (sym whole) ∙ pow-add 2 i (length a - i) in
    let total = λ (inputs : List Bool) (admitted : state.admits start inputs).
    let digit_kept = before.adds.keeps.values inputs digit admitted own_digit in
    let a_kept = map-kept before.adds.keeps inputs admitted a own_a in
    rw (digit_kept, a_kept, range) at (row_is inputs (before.adds.keeps.admitted inputs admitted)) in
    let below = λ (inputs : List Bool).
    let row_width : length (map (state.value s1 inputs) row) ≡ length a = length-map row (state.value s1 inputs) ∙ width in
    rw (row_width, range) at (number-below (map (state.value s1 inputs) row)) in
    record {
      adds = Adds-weaken (Adds-trans (Adds-trans (Adds-trans before.adds first) second) third) (used_more (length a) i some inside);
      own_bits = All-kept later row own_row;
      own_overflow = third.keeps.literals lost own_lost;
      own_past = own_next;
      width = width;
      product = λ inputs admitted.
          let row_kept = map-kept later inputs (to_s1.admitted inputs admitted) row own_row in
          rw (row_kept, number-take_more (state.value start inputs) b i digit (omega arith) at_digit, range)
          (row_number (2 ^ i) (2 ^ (length a - i)) (number (map (state.value start inputs) a)) (number (map (state.value start inputs) (take i b))) (number (map (state.value now inputs) bits)) (number (map (state.value s1 inputs) row)) (state.value start inputs digit) (state.value s1 inputs carry) (pow_pos (length a - i)) (subst (λ k. 0 < k) range (pow_pos (length a))) (rw range at (before.product inputs admitted)) (below inputs) (total inputs admitted));
      overflows = λ inputs admitted.
          let now_admitted = before.adds.keeps.admitted inputs admitted in
          let s1_admitted = to_s1.admitted inputs admitted in
          let lost_kept = third.keeps.values inputs lost (to_s2.admitted inputs admitted) own_lost in
          let overflow_kept = first.keeps.values inputs overflow now_admitted before.own_overflow in
          let digit_kept = to_s1.values inputs digit admitted own_digit in
          let past_kept = first.keeps.values inputs past now_admitted before.own_past in
          rw (lost_kept, lost_is inputs s1_admitted, overflow_kept, before.overflows inputs admitted, digit_kept, past_kept, before.shifted_out inputs admitted, number-take_more (state.value start inputs) b i digit (omega arith) at_digit, range)
          (sym (row_overflow (2 ^ i) (2 ^ (length a - i)) (number (map (state.value start inputs) a)) (number (map (state.value start inputs) (take i b))) (number (map (state.value now inputs) bits)) (number (map (state.value s1 inputs) row)) (state.value start inputs digit) (state.value s1 inputs carry) (pow_pos (length a - i)) (subst (λ k. 0 < k) range (pow_pos (length a))) (rw range at (before.product inputs admitted)) (below inputs) (total inputs admitted)));
      shifted_out = λ inputs admitted.
          let now_admitted = before.adds.keeps.admitted inputs admitted in
          let past_kept = (Keeps-trans first.keeps second.keeps).values inputs past now_admitted before.own_past in
          let lower_kept = to_s2.values inputs lower admitted own_lower in
          let place : length a - (i + 1) ≡ length a - 1 - i = omega arith in
          let above : length a - 1 - i + 1 ≡ length a - i = omega arith in
          let reached : nat_le (2 ^ (length a - 1 - i)) (number (map (state.value start inputs) a)) ≡ (nat_le (2 ^ (length a - i)) (number (map (state.value start inputs) a)) || state.value start inputs lower) =
          subst (λ k. nat_le (2 ^ (length a - 1 - i)) (number (map (state.value start inputs) a)) ≡ (nat_le (2 ^ k) (number (map (state.value start inputs) a)) || state.value start inputs lower)) above (bit_above (state.value start inputs) a (length a - 1 - i) lower (omega arith) at_lower) in
          rw (next_is inputs (to_s2.admitted inputs admitted), past_kept, before.shifted_out inputs admitted, lower_kept, place) (sym reached);
    }

-- The gates of a row that may stop in the middle stay within the bound of the whole.
pub multiplied_within : {C L : Type 0} {state : Ghosts C L} {start now next : C} {a b bits : List L} {overflow past : L} {i most : ℕ} → Multiplied state start now a b bits overflow past i → 0 < i → i < length a → Adds state now next most → most ≤ row_gates (length a - i) + 3 + 1 → Adds state start next (product_gates (length a))
multiplied_within {a = a} {i = i} before some inside adds few = Adds-weaken (Adds-trans before.adds adds) (omega (arith, used_more (length a) i some inside))

-- after the rows for all bits, the gates are within the bound
pub multiplied_adds : {C L : Type 0} {state : Ghosts C L} {start now : C} {a b bits : List L} {overflow past : L} {i : ℕ} → Multiplied state start now a b bits overflow past i → Adds state start now (product_gates (length a))
multiplied_adds done = Adds-weaken done.adds (omega arith)

pub multiplied_product : {C L : Type 0} {state : Ghosts C L} {start now : C} {a b bits : List L} {overflow past : L} {i : ℕ} → Multiplied state start now a b bits overflow past i → i ≡ length b → (inputs : List Bool) → state.admits start inputs → number (map (state.value now inputs) bits) ≡ (number (map (state.value start inputs) a) * number (map (state.value start inputs) b)) % 2 ^ length a
multiplied_product {state = state} {start = start} {a = a} {b = b} {i = i} done all inputs admitted =
    done.product inputs admitted ∙ ap (λ w. (number (map (state.value start inputs) a) * number (map (state.value start inputs) w)) % 2 ^ length a) (take_all i b (omega arith))

pub multiplied_overflows : {C L : Type 0} {state : Ghosts C L} {start now : C} {a b bits : List L} {overflow past : L} {i : ℕ} → Multiplied state start now a b bits overflow past i → i ≡ length b → (inputs : List Bool) → state.admits start inputs → state.value now inputs overflow ≡ nat_le (2 ^ length a) (number (map (state.value start inputs) a) * number (map (state.value start inputs) b))
multiplied_overflows {state = state} {start = start} {a = a} {b = b} {i = i} done all inputs admitted =
    done.overflows inputs admitted ∙ ap (λ w. nat_le (2 ^ length a) (number (map (state.value start inputs) a) * number (map (state.value start inputs) w))) (take_all i b (omega arith))
