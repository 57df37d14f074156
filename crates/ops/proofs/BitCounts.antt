-- The bits of a number one by one, and how many are counted.
use Rattle.ops.proofs.Common.{◌≡◌, ℕ, zero, suc, ◌+◌, ◌-◌, ◌/◌, ◌%◌, ◌^◌, ◌<◌, ◌≤◌, min, Bool, true, false, cond, not, List, [], ◌∷◌, ◌++◌, length, refl, sym, ap, ◌∙◌, inl, inr, ◌⊎◌, arith, ◌==◌, filter, reverse, count_ones, prefix_len, length-reverse, reverse-append, leading_top, leading_length, leading_le, ones-le, nat_tests, count_leading_zeros, count_trailing_zeros, under, ones_step, leading_of_zero, leading_unique, eq-zero-or-pos, binary_digits, ctpop, ctlz, cttz}

half_below : (n a : ℕ) → a < 2 ^ suc n → a / 2 < 2 ^ n
half_below n a h = omega (arith, native.Mathlib.Nat.two-pow-succ n)

digit : (a : ℕ) → a % 2 ≡ cond (a % 2 == 1) 1 0
digit a = by_rest (a % 2) (native.Mathlib.Nat.mod-lt a (omega arith))
  where
    by_rest : (r : ℕ) → r < 2 → r ≡ cond (r == 1) 1 0
    by_rest zero h = refl
    by_rest (suc zero) h = refl
    by_rest (suc (suc r)) h = absurd (omega arith)

-- ---- ones

one_more : (one : Bool) (rest : List Bool) → length (cond one (one ∷ rest) rest) ≡ cond one 1 0 + length rest
one_more true rest = omega arith
one_more false rest = omega arith

pub ctpop-ones : (N a : ℕ) → a < 2 ^ N → ctpop N a ≡ count_ones a
unfolding ctpop
ctpop-ones zero a h = omega (arith, ones-le 0 a h)
ctpop-ones (suc n) a h =
    one_more (a % 2 == 1) (filter (λ (one : Bool). one) (binary_digits n (a / 2)))
    ∙ ap (λ k. k + ctpop n (a / 2)) (sym (digit a)) ∙ ap (λ k. a % 2 + k) (ctpop-ones n (a / 2) (half_below n a h)) ∙ sym (ones_step a)

-- ---- zeros from the lowest

step_up : (r t n : ℕ) → r < 2 → min (under r t) (suc n) ≡ cond (not (r == 1)) (1 + min t n) 0
step_up zero t n h = omega arith
step_up (suc zero) t n h = omega arith
step_up (suc (suc r)) t n h = absurd (omega arith)

pub cttz-trailing : (N M a : ℕ) → N ≤ M → min (count_trailing_zeros M a) N ≡ cttz N a
unfolding cttz count_trailing_zeros
cttz-trailing zero M a h = omega arith
cttz-trailing (suc n) zero a h = absurd (omega arith)
cttz-trailing (suc n) (suc m) a h =
    step_up (a % 2) (count_trailing_zeros m (a / 2)) n (native.Mathlib.Nat.mod-lt a (omega arith))
    ∙ ap (λ k. cond (not (a % 2 == 1)) (1 + k) 0) (cttz-trailing n m (a / 2) (omega arith))

-- ---- zeros from the highest

digits_length : (n a : ℕ) → length (binary_digits n a) ≡ n
digits_length zero a = refl
digits_length (suc n) a = ap suc (digits_length n (a / 2))

-- an item put behind xs lengthens the prefix that passes exactly where all of xs passes and the item does
passed : (p : Bool → Bool) (x y : Bool) (rest : List Bool) (b : Bool) → p x ≡ b → prefix_len p (x ∷ rest) ≡ suc (length rest) → (b ≡ true) × (prefix_len p rest ≡ length rest)
passed p x y rest true h e = (refl, omega (arith, rw h at e))
passed p x y rest false h e = absurd (omega (arith, rw h at e))

all_pass : (p : Bool → Bool) (xs : List Bool) (y : Bool) → prefix_len p xs ≡ length xs → prefix_len p (xs ++ y ∷ []) ≡ length xs + cond (p y) 1 0
all_pass p [] y e = last (p y)
  where
    last : (b : Bool) → cond b (1 + 0) 0 ≡ 0 + cond b 1 0
    last true = refl
    last false = refl
all_pass p (x ∷ xs) y e =
    let is = passed p x y xs (p x) refl e in
    rw is.0 (omega (arith, all_pass p xs y is.1))

fail_step : (p : Bool → Bool) (x y : Bool) (xs : List Bool) (b : Bool) → p x ≡ b → prefix_len p (x ∷ xs) < suc (length xs)
    → (prefix_len p xs < length xs → prefix_len p (xs ++ y ∷ []) ≡ prefix_len p xs)
    → prefix_len p (x ∷ (xs ++ y ∷ [])) ≡ prefix_len p (x ∷ xs)
fail_step p x y xs true e h rest = let few = rw e at h in rw e (ap (λ k. 1 + k) (rest (omega arith)))
fail_step p x y xs false e h rest = rw e refl

some_fail : (p : Bool → Bool) (xs : List Bool) (y : Bool) → prefix_len p xs < length xs → prefix_len p (xs ++ y ∷ []) ≡ prefix_len p xs
some_fail p [] y h = absurd (omega arith)
some_fail p (x ∷ xs) y h = fail_step p x y xs (p x) refl h (some_fail p xs y)

-- a number that isn't 0
nonzero : (n : ℕ) → 0 < n → (n == 0) ≡ false
nonzero n h = grind (arith, nat_tests)

-- the zeros above the highest 1 of a number of n + 1 digits, by those of its half
above : (n h : ℕ) (one : Bool) (ds : List Bool) → length ds ≡ n → prefix_len not (reverse ds) ≡ count_leading_zeros n h → h < 2 ^ n
    → (h ≡ 0) ⊎ (0 < h) → prefix_len not (reverse ds ++ one ∷ []) ≡ cond (h == 0) (n + cond (not one) 1 0) (count_leading_zeros n h)
above n h one ds len e below (inl z) =
    let all : prefix_len not (reverse ds) ≡ length (reverse ds) = e ∙ ap (count_leading_zeros n) z ∙ leading_of_zero n ∙ sym len ∙ sym (length-reverse ds) in
    rw z (all_pass not (reverse ds) one all ∙ ap (λ k. k + cond (not one) 1 0) (length-reverse ds ∙ len))
above n h one ds len e below (inr p) =
    let top = leading_top n h p below in
    rw (nonzero h p) (some_fail not (reverse ds) one (omega (arith, e, top.1, length-reverse ds, len)) ∙ e)

-- the same of a number by itself
leading_step : (n a : ℕ) → a < 2 ^ suc n → count_leading_zeros (suc n) a ≡ cond (a / 2 == 0) (n + cond (not (a % 2 == 1)) 1 0) (count_leading_zeros n (a / 2))
unfolding count_leading_zeros
leading_step n zero h = omega arith
leading_step n (suc zero) h = leading_of_zero n ∙ omega arith
leading_step n (suc (suc a)) h = let half : 0 < suc (suc a) / 2 = omega arith in rw (nonzero (suc (suc a) / 2) half) refl

pub ctlz-leading : (N a : ℕ) → a < 2 ^ N → ctlz N a ≡ count_leading_zeros N a
unfolding ctlz count_leading_zeros
ctlz-leading zero a h = refl
ctlz-leading (suc n) a h =
    ap (prefix_len not) (reverse-append ((a % 2 == 1) ∷ []) (binary_digits n (a / 2)))
    ∙ above n (a / 2) (a % 2 == 1) (binary_digits n (a / 2)) (digits_length n (a / 2)) (ctlz-leading n (a / 2) (half_below n a h)) (half_below n a h) (eq-zero-or-pos (a / 2))
    ∙ sym (leading_step n a h)

-- a number of fewer bits has the missing ones as zeros above
pub leading_of_fewer : (N M a : ℕ) → N ≤ M → a < 2 ^ N → count_leading_zeros M a ≡ count_leading_zeros N a + (M - N)
leading_of_fewer N M a w h =
    let length = leading_length N a h in
    sym (leading_unique M a (count_leading_zeros N a + (M - N)) length.0 (omega (arith, length.1)) length.2 length.3)

pub ctlz-most : (N a : ℕ) → a < 2 ^ N → ctlz N a ≤ N
ctlz-most N a h = rw (ctlz-leading N a h) (leading_le N a)

pub cttz-most : (N a : ℕ) → cttz N a ≤ N
cttz-most N a = omega (arith, cttz-trailing N N a (omega arith))

pub ctpop-most : (N a : ℕ) → a < 2 ^ N → ctpop N a ≤ N
ctpop-most N a h = rw (ctpop-ones N a h) (ones-le N a h)
