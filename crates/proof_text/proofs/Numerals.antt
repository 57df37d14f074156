-- The digits of numbers: what begins with them, and how one more makes a greater number.
use Rattle.proof_text.proofs.Common.{◌≡◌, ℕ, zero, suc, ◌+◌, ◌*◌, ◌-◌, ◌/◌, ◌%◌, ◌^◌, ◌<◌, ◌≤◌, true, false, List, [], ◌∷◌, ◌++◌, map, get_or, decimal, refl, ap, sym, ◌∙◌, arith, AllByRecursion, digits_of, number_from_digits_after, nat_tests, decimal_digit, decimal-digits_of, map-append, digits_of_step, all_below_base_digits_of, first_digits_of, number_after_append, number_after_ge, number_digits_of, is_digit, numeral}

-- ---- what is written of a number of 64 bits

pub decimal_is : (n : ℕ) → n < 2 ^ 64 → decimal n ≡ numeral n
unfolding numeral
decimal_is zero small = decimal_digit zero (omega arith)
decimal_is (suc n) small = decimal-digits_of (suc n) (omega arith) small

pub numeral_pos : (n : ℕ) → 0 < n → numeral n ≡ map (λ digit. 48 + digit) (digits_of 10 n)
unfolding numeral
numeral_pos zero h = absurd (omega arith)
numeral_pos (suc n) h = refl

pub numeral_zero : numeral 0 ≡ 48 ∷ []
unfolding numeral
numeral_zero = refl

pub numeral_one : (d : ℕ) → d < 10 → numeral d ≡ (48 + d) ∷ []
numeral_one d h = sym (decimal_is d (omega arith)) ∙ decimal_digit d h

-- one more digit
pub numeral_more : (n d : ℕ) → 0 < n → d < 10 → numeral (n * 10 + d) ≡ numeral n ++ (48 + d) ∷ []
numeral_more n d some h =
    let m = n * 10 + d in
    let q : m / 10 ≡ n = omega arith in
    let r : m % 10 ≡ d = omega arith in
    let step : digits_of 10 m ≡ digits_of 10 (m / 10) ++ (m % 10 ∷ []) = digits_of_step 10 m (omega arith) (omega arith) in
    let step2 : digits_of 10 m ≡ digits_of 10 n ++ (d ∷ []) = step ∙ ap (λ (k : ℕ). digits_of 10 k ++ (m % 10 ∷ [])) q ∙ ap (λ (k : ℕ). digits_of 10 n ++ (k ∷ [])) r in
    numeral_pos m (omega arith) ∙ ap (λ (ds : List ℕ). map (λ (digit : ℕ). 48 + digit) ds) step2 ∙ map-append (λ (digit : ℕ). 48 + digit) (digits_of 10 n) (d ∷ []) ∙ ap (λ (ds : List ℕ). ds ++ (48 + d) ∷ []) (sym (numeral_pos n some))

-- ---- digits

digit_is : (d : ℕ) → d < 10 → is_digit (48 + d) ≡ true
unfolding is_digit
digit_is d h = grind (arith, nat_tests)

glyphs : (ds : List ℕ) → AllByRecursion (λ d. d < 10) ds → AllByRecursion (λ c. is_digit c ≡ true) (map (λ d. 48 + d) ds)
glyphs [] h = tt
glyphs (d ∷ ds) h = (digit_is d h.0, glyphs ds h.1)

pub numeral_digits : (n : ℕ) → AllByRecursion (λ c. is_digit c ≡ true) (numeral n)
unfolding numeral
numeral_digits zero = (digit_is 0 (omega arith), tt)
numeral_digits (suc n) = glyphs (digits_of 10 (suc n)) (all_below_base_digits_of 10 (suc n) (omega arith))

-- the first digit
pub record Begins (n : ℕ) : Type 0 where
  pub first : ℕ
  pub others : List ℕ
  pub whole : numeral n ≡ first ∷ others
  pub digit : is_digit first ≡ true
  pub no_zero : 0 < n → first ≡ 48 → ⊥

begins_list : (cs : List ℕ) → 0 < get_or cs 0 0 → (c : ℕ) × (rest : List ℕ) × (cs ≡ c ∷ rest) × (0 < c)
begins_list [] h = absurd (omega arith)
begins_list (c ∷ rest) h = (c, rest, refl, h)

pub begins : (n : ℕ) → Begins n
begins zero = record { first = 48; others = []; whole = numeral_zero; digit = digit_is 0 (omega arith); no_zero = λ h e. absurd (omega arith) }
begins (suc n) =
    let m = suc n in
    let b = begins_list (digits_of 10 m) (first_digits_of 10 m (omega arith) (omega arith)) in
    let whole : numeral m ≡ (48 + b.0) ∷ map (λ (digit : ℕ). 48 + digit) b.1 = numeral_pos m (omega arith) ∙ ap (λ (ds : List ℕ). map (λ (digit : ℕ). 48 + digit) ds) b.2 in
    let all : AllByRecursion (λ c. is_digit c ≡ true) ((48 + b.0) ∷ map (λ (digit : ℕ). 48 + digit) b.1) = rw whole at (numeral_digits m) in
    let positive = b.3 in
    record { first = 48 + b.0; others = map (λ (digit : ℕ). 48 + digit) b.1; whole = whole; digit = all.0; no_zero = λ h e. omega (arith, positive) }

-- ---- the number that digits write

value : List ℕ → ℕ
value cs = number_from_digits_after 10 0 (map (λ c. c - 48) cs)

unglyphs : (ds : List ℕ) → map (λ c. c - 48) (map (λ d. 48 + d) ds) ≡ ds
unglyphs [] = refl
unglyphs (d ∷ ds) =
    let e : 48 + d - 48 ≡ d = omega arith in
    ap (λ (k : ℕ). k ∷ map (λ (c : ℕ). c - 48) (map (λ (x : ℕ). 48 + x) ds)) e ∙ ap (λ (l : List ℕ). d ∷ l) (unglyphs ds)

value_numeral : (n : ℕ) → value (numeral n) ≡ n
unfolding value numeral
value_numeral zero = refl
value_numeral (suc n) = ap (λ (l : List ℕ). number_from_digits_after 10 0 l) (unglyphs (digits_of 10 (suc n))) ∙ number_digits_of 10 (suc n) (omega arith)

value_more : (cs more : List ℕ) (c : ℕ) → value cs * 10 + (c - 48) ≤ value (cs ++ c ∷ more)
unfolding value
value_more cs more c =
    let after = λ (n : ℕ) (l : List ℕ). number_from_digits_after 10 n l in
    let split : value (cs ++ c ∷ more) ≡ after (value cs) (map (λ (x : ℕ). x - 48) (c ∷ more))
    = ap (λ (l : List ℕ). after 0 l) (map-append (λ (x : ℕ). x - 48) cs (c ∷ more)) ∙ number_after_append 10 0 (map (λ (x : ℕ). x - 48) cs) (map (λ (x : ℕ). x - 48) (c ∷ more)) in
    let grows : value cs * 10 + (c - 48) ≤ after (value cs * 10 + (c - 48)) (map (λ (x : ℕ). x - 48) more) = number_after_ge 10 (value cs * 10 + (c - 48)) (map (λ (x : ℕ). x - 48) more) (omega arith) in
    rw split grows

pub greater : (n m c : ℕ) (more : List ℕ) → numeral m ≡ numeral n ++ c ∷ more → n * 10 + (c - 48) ≤ m
greater n m c more e =
    let h : value (numeral n) * 10 + (c - 48) ≤ value (numeral n ++ c ∷ more) = value_more (numeral n) more c in
    let h2 : value (numeral n) * 10 + (c - 48) ≤ value (numeral m) = rw e h in
    rw (value_numeral n, value_numeral m) at h2

no_longer_zero : (m c : ℕ) (more : List ℕ) → numeral m ≡ 48 ∷ c ∷ more → ⊥
no_longer_zero zero c more e = let z = numeral_zero in cc
no_longer_zero (suc m) c more e =
    let b = begins (suc m) in
    b.no_zero (omega arith) (let w = b.whole in cc)

pub longer_some : (n m c : ℕ) (more : List ℕ) → numeral m ≡ numeral n ++ c ∷ more → 0 < n
longer_some zero m c more e = absurd (no_longer_zero m c more (e ∙ ap (λ (l : List ℕ). l ++ c ∷ more) numeral_zero))
longer_some (suc n) m c more e = omega arith

-- ---- two fronts of one text, each before a byte

pub data Split (xs : List ℕ) (x : ℕ) (left : List ℕ) (ys : List ℕ) (y : ℕ) (bs : List ℕ) : Type 0 where
  same : xs ≡ ys → x ≡ y → left ≡ bs → Split xs x left ys y bs
  longer : (zs : List ℕ) → ys ≡ xs ++ x ∷ zs → left ≡ zs ++ y ∷ bs → Split xs x left ys y bs
  shorter : (zs : List ℕ) → xs ≡ ys ++ y ∷ zs → bs ≡ zs ++ x ∷ left → Split xs x left ys y bs

split_more : {xs left ys bs : List ℕ} {x y : ℕ} (a b : ℕ) → a ≡ b → Split xs x left ys y bs → Split (a ∷ xs) x left (b ∷ ys) y bs
split_more {xs = xs} {ys = ys} {x = x} {y = y} a b f (same p q r) = same (ap (λ (k : ℕ). k ∷ xs) f ∙ ap (λ (k : List ℕ). b ∷ k) p) q r
split_more {xs = xs} {ys = ys} {x = x} {y = y} a b f (longer zs p r) = longer zs (ap (λ (k : ℕ). k ∷ ys) (sym f) ∙ ap (λ (k : List ℕ). a ∷ k) p) r
split_more {xs = xs} {ys = ys} {x = x} {y = y} a b f (shorter zs p r) = shorter zs (ap (λ (k : ℕ). k ∷ xs) f ∙ ap (λ (k : List ℕ). b ∷ k) p) r

pub split : (xs ys left bs : List ℕ) (x y : ℕ) → xs ++ x ∷ left ≡ ys ++ y ∷ bs → Split xs x left ys y bs
split [] [] left bs x y e =
    let f : x ≡ y = cc in
    let g : left ≡ bs = cc in
    same refl f g
split [] (b ∷ ys) left bs x y e =
    let f : b ≡ x = cc in
    let g : left ≡ ys ++ y ∷ bs = cc in
    longer ys (ap (λ (k : ℕ). k ∷ ys) f) g
split (a ∷ xs) [] left bs x y e =
    let f : a ≡ y = cc in
    let g : bs ≡ xs ++ x ∷ left = cc in
    shorter xs (ap (λ (k : ℕ). k ∷ xs) f) g
split (a ∷ xs) (b ∷ ys) left bs x y e =
    let f : a ≡ b = cc in
    let tail : xs ++ x ∷ left ≡ ys ++ y ∷ bs = cc in
    split_more a b f (split xs ys left bs x y tail)

-- a part of digits is one
digit_behind : (xs zs : List ℕ) (y : ℕ) → AllByRecursion (λ c. is_digit c ≡ true) (xs ++ y ∷ zs) → is_digit y ≡ true
digit_behind [] zs y h = h.0
digit_behind (x ∷ xs) zs y h = digit_behind xs zs y h.1

pub digit_of_numeral : (n y : ℕ) (ys zs : List ℕ) → numeral n ≡ ys ++ y ∷ zs → is_digit y ≡ true
digit_of_numeral n y ys zs e = digit_behind ys zs y (rw e at (numeral_digits n))

-- a number before a byte, and one before a byte that is no digit: the same, or the first goes on by a digit
pub data Numbers (n b : ℕ) (left : List ℕ) (m e : ℕ) (bs : List ℕ) : Type 0 where
  one : n ≡ m → b ≡ e → left ≡ bs → Numbers n b left m e bs
  on : is_digit b ≡ true → 0 < n → n * 10 + (b - 48) ≤ m → Numbers n b left m e bs

value_same : (n m : ℕ) → numeral n ≡ numeral m → n ≡ m
value_same n m e = sym (value_numeral n) ∙ ap value e ∙ value_numeral m

pub two_numbers : (n m b e : ℕ) (left bs : List ℕ) → is_digit e ≡ false → numeral n ++ b ∷ left ≡ numeral m ++ e ∷ bs → Numbers n b left m e bs
two_numbers n m b e left bs no_digit text =
    elim (split (numeral n) (numeral m) left bs b e text) [
      | same p q r ↦ one (value_same n m p) q r
      | longer zs p q ↦ on (digit_of_numeral m b (numeral n) zs p) (longer_some n m b zs p) (greater n m b zs p)
      | shorter zs p q ↦ absurd (let d : is_digit e ≡ true = digit_of_numeral n e (numeral m) zs p in cc)
    ]
