-- How many bits of a word are true, and how many are false before the first that is true.
use Rattle.circ_counts.proofs.Common.{◌≡◌, ℕ, zero, suc, ◌+◌, ◌*◌, ◌^◌, ◌<◌, ◌≤◌, Bool, true, false, cond, ◌&&◌, List, [], ◌∷◌, ◌++◌, length, take, get_or, refl, sym, ap, ◌∙◌, arith, filter, All, list_all, prefix_len, take_more, pow-succ', Ghosts, Keeps, stages, bit, stages-enough, stages-least}

-- one more bit counts as 1 or 0
count_one : (b : Bool) {L : Type 0} (x : L) (xs : List L) → length (cond b (x ∷ xs) xs) ≡ length xs + bit b
count_one true x xs = omega arith
count_one false x xs = omega arith

pub count_push : {L : Type 0} (p : L → Bool) (xs : List L) (x : L) → length (filter p (xs ++ x ∷ [])) ≡ length (filter p xs) + bit (p x)
count_push p [] x = count_one (p x) x []
count_push p (y ∷ xs) x = step (p y) (count_push p xs x)
  where
    step : (b : Bool) → length (filter p (xs ++ x ∷ [])) ≡ length (filter p xs) + bit (p x)
        → length (cond b (y ∷ filter p (xs ++ x ∷ [])) (filter p (xs ++ x ∷ []))) ≡ length (cond b (y ∷ filter p xs) (filter p xs)) + bit (p x)
    step true e = omega arith
    step false e = e

pub count_take_more : {L : Type 0} (p : L → Bool) (a : List L) (i : ℕ) (x : L) → i < length a → x ≡ get_or a i x → length (filter p (take (i + 1) a)) ≡ length (filter p (take i a)) + bit (p x)
count_take_more p a i x in_range e =
    let one_more : take (i + 1) a ≡ take i a ++ x ∷ [] = take_more a i x in_range ∙ ap (λ y. take i a ++ y ∷ []) (sym e) in
    ap (λ w. length (filter p w)) one_more ∙ count_push p (take i a) x

pub count-le : {L : Type 0} (p : L → Bool) (xs : List L) → length (filter p xs) ≤ length xs
count-le p [] = omega arith
count-le p (x ∷ xs) = step (p x) (count-le p xs)
  where
    step : (b : Bool) → length (filter p xs) ≤ length xs → length (cond b (x ∷ filter p xs) (filter p xs)) ≤ suc (length xs)
    step true h = omega arith
    step false h = omega arith

-- a sum below 2 to the power of the width has no carry
pub no_carry : (s m n : ℕ) (carry : Bool) → s + m * bit carry ≡ n → n < m → s ≡ n
no_carry s m n true e h = absurd (omega arith)
no_carry s m n false e h = omega arith

-- where a circuit keeps its older literals' values, as many bits of a word are true as before
pub count-kept : {C L : Type 0} {state : Ghosts C L} {old new : C} → Keeps state old new → (inputs : List Bool) → state.admits old inputs → (word : List L) → All (state.has_literal old) word → length (filter (state.value new inputs) word) ≡ length (filter (state.value old inputs) word)
count-kept keeps inputs admitted [] own = refl
count-kept {state = state} {old = old} {new = new} keeps inputs admitted (l ∷ word) own =
    step (state.value new inputs l) (state.value old inputs l) (keeps.values inputs l admitted (own 0 l (omega arith))) (count-kept keeps inputs admitted word (λ k d below. own (suc k) d (omega arith)))
  where
    step : (p q : Bool) → p ≡ q → length (filter (state.value new inputs) word) ≡ length (filter (state.value old inputs) word)
        → length (cond p (l ∷ filter (state.value new inputs) word) (filter (state.value new inputs) word)) ≡ length (cond q (l ∷ filter (state.value old inputs) word) (filter (state.value old inputs) word))
    step true true same rest = ap suc rest
    step true false same rest = cc
    step false true same rest = cc
    step false false same rest = rest

-- the run of elements that pass is longer by one where the next one passes and all before did
run_push : {L : Type 0} (p : L → Bool) (xs : List L) (x : L) → (list_all p (xs ++ x ∷ []) ≡ (list_all p xs && p x)) × (prefix_len p (xs ++ x ∷ []) ≡ prefix_len p xs + bit (list_all p xs && p x))
run_push p [] x = last (p x)
  where
    last : (b : Bool) → ((b && true) ≡ (true && b)) × (cond b (1 + 0) 0 ≡ 0 + bit (true && b))
    last true = (refl, omega arith)
    last false = (refl, omega arith)
run_push p (y ∷ xs) x = step (p y) (run_push p xs x)
  where
    step : (b : Bool) → (list_all p (xs ++ x ∷ []) ≡ (list_all p xs && p x)) × (prefix_len p (xs ++ x ∷ []) ≡ prefix_len p xs + bit (list_all p xs && p x))
        → ((b && list_all p (xs ++ x ∷ [])) ≡ ((b && list_all p xs) && p x)) × (cond b (1 + prefix_len p (xs ++ x ∷ [])) 0 ≡ cond b (1 + prefix_len p xs) 0 + bit ((b && list_all p xs) && p x))
    step true h = (h.0, omega (arith, h.1))
    step false h = (refl, omega arith)

pub run_take_more : {L : Type 0} (p : L → Bool) (a : List L) (i : ℕ) (x : L) → i < length a → x ≡ get_or a i x → (list_all p (take (i + 1) a) ≡ (list_all p (take i a) && p x)) × (prefix_len p (take (i + 1) a) ≡ prefix_len p (take i a) + bit (list_all p (take i a) && p x))
run_take_more p a i x in_range e =
    let one_more : take (i + 1) a ≡ take i a ++ x ∷ [] = take_more a i x in_range ∙ ap (λ y. take i a ++ y ∷ []) (sym e) in
    rw one_more (run_push p (take i a) x)

below_pow : (n : ℕ) → n + 1 ≤ 2 ^ n
below_pow zero = omega arith
below_pow (suc n) = rw (pow-succ' 2 n) (omega (arith, below_pow n))

-- the counter has enough digits for each number up to the width, and no more digits than the width
pub digits-hold : (n : ℕ) → n < 2 ^ stages (n + 1)
digits-hold n = omega (arith, stages-enough (n + 1))

pub digits-few : (n : ℕ) → stages (n + 1) ≤ n
digits-few n = stages-least (n + 1) n (below_pow n)
