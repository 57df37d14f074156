-- Options and lists.
use Rattle.substitution.proofs.Common.{◌≡◌, ℕ, zero, suc, ◌+◌, ◌⊎◌, inl, inr, List, [], ◌∷◌, ◌++◌, length, Option, None, Some, refl, sym, ap, subst, ◌∙◌, arith, Contains, map, slice_get, option_map, option_and_then, slice_get-map, same_Some, place_in, contains_at}

-- if mapping an option gives a value, the option has one
pub mapped : {A B : Type 0} (f : A → B) (o : Option A) (y : B) → option_map f o ≡ Some y → (x : A) × (o ≡ Some x) × (f x ≡ y)
mapped f None y h = absurd cc
mapped f (Some x) y h = (x, refl, same_Some (f x) y h)

pub chained : {A B : Type 0} (f : A → Option B) (o : Option A) (y : B) → option_and_then f o ≡ Some y → (x : A) × (o ≡ Some x) × (f x ≡ Some y)
chained f None y h = absurd cc
chained f (Some x) y h = (x, refl, h)

pub in_map : {A B : Type 0} (f : A → B) (xs : List A) (y : B) → Contains (map f xs) y → (x : A) × Contains xs x × (f x ≡ y)
in_map {A = A} {B = B} f xs y h =
    let at : (i : ℕ) × (slice_get (map f xs) i ≡ Some y) = place_in (map f xs) y h in
    let x : (x : A) × (slice_get xs at.0 ≡ Some x) × (f x ≡ y) = mapped f (slice_get xs at.0) y (sym (slice_get-map f xs at.0) ∙ at.1) in
    (x.0, contains_at xs at.0 x.0 x.1, x.2)

pub map_in : {A B : Type 0} (f : A → B) (xs : List A) (x : A) → Contains xs x → Contains (map f xs) (f x)
map_in {A = A} {B = B} f xs x h =
    let at : (i : ℕ) × (slice_get xs i ≡ Some x) = place_in xs x h in
    contains_at (map f xs) at.0 (f x) (slice_get-map f xs at.0 ∙ ap (option_map f) at.1)

-- two lists, one behind the other
pub get_left : {A : Type 0} (xs ys : List A) (n : ℕ) (x : A) → slice_get xs n ≡ Some x → slice_get (xs ++ ys) n ≡ Some x
get_left [] ys n x h = absurd cc
get_left (y ∷ xs) ys zero x h = h
get_left (y ∷ xs) ys (suc n) x h = get_left xs ys n x h

pub get_right : {A : Type 0} (xs ys : List A) (j n : ℕ) (y : A) → slice_get ys j ≡ Some y → n ≡ length xs + j → slice_get (xs ++ ys) n ≡ Some y
get_right [] ys j n y h e = let same : j ≡ n = omega arith in subst (λ p. slice_get ys p ≡ Some y) same h
get_right (x ∷ xs) ys j zero y h e = absurd (omega arith)
get_right (x ∷ xs) ys j (suc n) y h e = get_right xs ys j n y h (omega arith)

pub get_cases : {A : Type 0} (xs ys : List A) (n : ℕ) (x : A) → slice_get (xs ++ ys) n ≡ Some x → (slice_get xs n ≡ Some x) ⊎ ((j : ℕ) × (n ≡ length xs + j) × (slice_get ys j ≡ Some x))
get_cases [] ys n x h = inr (n, omega arith, h)
get_cases (y ∷ xs) ys zero x h = inl h
get_cases (y ∷ xs) ys (suc n) x h = elim (get_cases xs ys n x h) [ inl here ↦ inl here | inr later ↦ let e : n ≡ length xs + later.0 = later.1 in inr (later.0, omega arith, later.2) ]
