-- Elements and prefixes of joined lists.
use Rattle.depth_first.proofs.Common.{◌≡◌, ℕ, zero, suc, ◌+◌, ◌<◌, ◌≤◌, List, [], ◌∷◌, ◌++◌, Some, length, take, refl, sym, ap, arith, inl, inr, subst, slice_get, ◌⊎◌}

pub some_same : {X : Type 0} (x y : X) → Some x ≡ Some y → x ≡ y
some_same x y e = cc

-- an element of the first list is at the same place of the joined lists
pub slice_get_left : {X : Type 0} (xs ys : List X) (k : ℕ) (x : X) → slice_get xs k ≡ Some x → slice_get (xs ++ ys) k ≡ Some x
slice_get_left [] ys k x at = cc
slice_get_left (z ∷ zs) ys zero x at = at
slice_get_left (z ∷ zs) ys (suc k) x at = slice_get_left zs ys k x at

pub slice_get_right : {X : Type 0} (xs ys : List X) (k j : ℕ) (x : X) → k ≡ length xs + j → slice_get ys j ≡ Some x → slice_get (xs ++ ys) k ≡ Some x
slice_get_right [] ys k j x is at = let e : k ≡ j = omega arith in subst (λ i. slice_get ys i ≡ Some x) (sym e) at
slice_get_right (z ∷ zs) ys zero j x is at = absurd (omega arith)
slice_get_right (z ∷ zs) ys (suc k) j x is at = slice_get_right zs ys k j x (omega arith) at

-- an element of joined lists is one of the first or one of the second
pub slice_get_cases : {X : Type 0} (xs ys : List X) (k : ℕ) (x : X) → slice_get (xs ++ ys) k ≡ Some x → (slice_get xs k ≡ Some x) ⊎ ((j : ℕ) × (k ≡ length xs + j) × (slice_get ys j ≡ Some x))
slice_get_cases [] ys k x at = inr (k, omega arith, at)
slice_get_cases (z ∷ zs) ys zero x at = inl at
slice_get_cases (z ∷ zs) ys (suc k) x at =
    elim (slice_get_cases zs ys k x at) [
      | inl left ↦ inl left
      | inr right ↦ inr (right.0, omega (arith, right.1), right.2)
    ]

-- a list of one element has no other
pub slice_get_one : {X : Type 0} (y : X) (j : ℕ) (x : X) → slice_get (y ∷ []) j ≡ Some x → (j ≡ 0) × (y ≡ x)
slice_get_one y zero x at = (refl, cc)
slice_get_one y (suc j) x at = cc

-- an element of a list to which one was added is one of the list or the added one
pub slice_get_push_cases : {X : Type 0} (xs : List X) (y : X) (k : ℕ) (x : X) → slice_get (xs ++ y ∷ []) k ≡ Some x → (slice_get xs k ≡ Some x) ⊎ ((k ≡ length xs) × (y ≡ x))
slice_get_push_cases xs y k x at =
    elim (slice_get_cases xs (y ∷ []) k x at) [
      | inl left ↦ inl left
      | inr right ↦
          let one = slice_get_one y right.0 x right.2 in
          inr (omega (arith, right.1, one.0), one.1)
    ]

pub slice_get_last : {X : Type 0} (xs : List X) (y : X) → slice_get (xs ++ y ∷ []) (length xs) ≡ Some y
slice_get_last xs y = slice_get_right xs (y ∷ []) (length xs) 0 y (omega arith) refl

pub slice_get_below : {X : Type 0} (xs : List X) (k : ℕ) (x : X) → slice_get xs k ≡ Some x → k < length xs
slice_get_below [] k x at = cc
slice_get_below (z ∷ zs) zero x at = omega arith
slice_get_below (z ∷ zs) (suc k) x at = let h : k < length zs = slice_get_below zs k x at in omega arith

pub element_at : {X : Type 0} (xs : List X) (k : ℕ) → k < length xs → (x : X) × (slice_get xs k ≡ Some x)
element_at [] k within = absurd (omega arith)
element_at (y ∷ ys) zero within = (y, refl)
element_at (y ∷ ys) (suc k) within = element_at ys k (omega arith)

-- prefixes of joined lists
pub take_left : {X : Type 0} (xs ys : List X) (k : ℕ) (x : X) → slice_get xs k ≡ Some x → take k (xs ++ ys) ≡ take k xs
take_left [] ys k x at = cc
take_left (z ∷ zs) ys zero x at = refl
take_left (z ∷ zs) ys (suc k) x at = ap (λ l. z ∷ l) (take_left zs ys k x at)

pub take_right : {X : Type 0} (xs ys : List X) (k j : ℕ) → k ≡ length xs + j → take k (xs ++ ys) ≡ xs ++ take j ys
take_right [] ys k j is = let e : k ≡ j = omega arith in ap (λ i. take i ys) e
take_right (z ∷ zs) ys zero j is = absurd (omega arith)
take_right (z ∷ zs) ys (suc k) j is = ap (λ l. z ∷ l) (take_right zs ys k j (omega arith))

pub take_whole : {X : Type 0} (xs ys : List X) → take (length xs) (xs ++ ys) ≡ xs
take_whole [] ys = refl
take_whole (z ∷ zs) ys = ap (λ l. z ∷ l) (take_whole zs ys)

-- an element of a prefix stands in the list
pub slice_get_take : {X : Type 0} (n : ℕ) (xs : List X) (k : ℕ) (x : X) → slice_get (take n xs) k ≡ Some x → (slice_get xs k ≡ Some x) × (k < n)
slice_get_take zero xs k x at = cc
slice_get_take (suc n) [] k x at = cc
slice_get_take (suc n) (z ∷ zs) zero x at = (at, omega arith)
slice_get_take (suc n) (z ∷ zs) (suc k) x at =
    let h = slice_get_take n zs k x at in (h.0, omega (arith, h.1))

pub take_in_take : {X : Type 0} (n : ℕ) (xs : List X) (k : ℕ) (x : X) → slice_get (take n xs) k ≡ Some x → take k (take n xs) ≡ take k xs
take_in_take zero xs k x at = cc
take_in_take (suc n) [] k x at = cc
take_in_take (suc n) (z ∷ zs) zero x at = refl
take_in_take (suc n) (z ∷ zs) (suc k) x at = ap (λ l. z ∷ l) (take_in_take n zs k x at)

-- the first k + 1 elements are the first k and the element at place k
pub take_next : {X : Type 0} (xs : List X) (k : ℕ) (x : X) → slice_get xs k ≡ Some x → take (suc k) xs ≡ take k xs ++ x ∷ []
take_next [] k x at = cc
take_next (y ∷ ys) zero x at = let same : y ≡ x = cc in ap (λ z. z ∷ []) same
take_next (y ∷ ys) (suc k) x at = ap (λ zs. y ∷ zs) (take_next ys k x at)

pub slice_get_in_take : {X : Type 0} (n : ℕ) (xs : List X) (k : ℕ) (x : X) → slice_get xs k ≡ Some x → k < n → slice_get (take n xs) k ≡ Some x
slice_get_in_take zero xs k x at below = absurd (omega arith)
slice_get_in_take (suc n) [] k x at below = cc
slice_get_in_take (suc n) (z ∷ zs) zero x at below = at
slice_get_in_take (suc n) (z ∷ zs) (suc k) x at below = slice_get_in_take n zs k x at (omega arith)

pub take_take_below : {X : Type 0} (m n : ℕ) (xs : List X) → m ≤ n → take m (take n xs) ≡ take m xs
take_take_below zero n xs h = refl
take_take_below (suc m) zero xs h = absurd (omega arith)
take_take_below (suc m) (suc n) [] h = refl
take_take_below (suc m) (suc n) (x ∷ xs) h = ap (λ l. x ∷ l) (take_take_below m n xs (omega arith))
