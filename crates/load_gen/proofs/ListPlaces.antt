-- Lists by place.
use Rattle.load_gen.proofs.Common.{◌≡◌, ℕ, zero, suc, ◌+◌, ◌<◌, List, [], ◌∷◌, ◌++◌, length, Some, refl, ap, subst, arith, inl, inr, ◌⊎◌, All, Contains, slice_get, Contains-append_cases, Contains-append_left, Contains-append_right, Contains-push, Contains-push_cases, slice_get_within, get_or_from_slice_get}

pub at_left : {A : Type 0} (xs ys : List A) (k : ℕ) → k < length xs → slice_get (xs ++ ys) k ≡ slice_get xs k
at_left [] ys k h = absurd (omega arith)
at_left (x ∷ xs) ys zero h = refl
at_left (x ∷ xs) ys (suc k) h = at_left xs ys k (omega arith)

pub at_right : {A : Type 0} (xs ys : List A) (n k : ℕ) → n ≡ length xs + k → slice_get (xs ++ ys) n ≡ slice_get ys k
at_right [] ys n k e = let same : n ≡ k = omega arith in ap (slice_get ys) same
at_right (x ∷ xs) ys zero k e = absurd (omega arith)
at_right (x ∷ xs) ys (suc n) k e = at_right xs ys n k (omega arith)

-- what holds of each item holds of the one at a place
pub all_get : {A : Type 0} (P : A → Type 0) (xs : List A) (k : ℕ) (x : A) → All P xs → slice_get xs k ≡ Some x → P x
all_get P xs k x all at = subst P (get_or_from_slice_get xs k x x at) (all k x (slice_get_within xs k x at))

pub first_in : {A : Type 0} (x : A) (xs : List A) → Contains (x ∷ xs) x
first_in x xs = Contains-append_left (x ∷ []) xs x (Contains-push [] x)

pub later_in : {A : Type 0} (x : A) (xs : List A) (y : A) → Contains xs y → Contains (x ∷ xs) y
later_in x xs y has = Contains-append_right (x ∷ []) xs y has

-- what a list of one item contains, and a list of two
pub among_one : {A : Type 0} (x z : A) → Contains (x ∷ []) z → x ≡ z
among_one x z has = elim (Contains-push_cases [] x z has) [ inl none ↦ absurd (omega arith) | inr is ↦ is ]

pub among_two : {A : Type 0} (x y z : A) → Contains (x ∷ y ∷ []) z → (x ≡ z) ⊎ (y ≡ z)
among_two x y z has =
    elim (Contains-append_cases (x ∷ []) (y ∷ []) z has) [
      | inl first ↦ inl (among_one x z first)
      | inr later ↦ inr (among_one y z later)
    ]
