-- Lists with indices, and lists whose items are related one by one.
use Rattle.ir_text.proofs.Common.{◌≡◌, ℕ, suc, zero, ◌+◌, ◌<◌, List, [], ◌∷◌, length, None, Some, refl, sym, ap, subst, ◌∙◌, arith, slice_get, enumerate_from, All, AllZip, AllByRecursion, get_or_from_slice_get, slice_get_within, get_numbered, mapped, some_same}

-- ---- the item at an index

pub numbered_at : {X : Type 0} (n : ℕ) (xs : List X) (i : ℕ) (p : ℕ × X) → slice_get (enumerate_from n xs) i ≡ Some p → (p.0 ≡ n + i) × (slice_get xs i ≡ Some p.1)
numbered_at {X} n xs i p at =
    let (x, here, is) = mapped (λ (y : X). (n + i, y)) (slice_get xs i) p (sym (get_numbered n xs i) ∙ at) in
    (ap (λ (q : ℕ × X). q.0) (sym is), here ∙ ap (λ (q : ℕ × X). Some q.1) is)

pub numbered_here : {X : Type 0} (xs : List X) (i : ℕ) (p : ℕ × X) → slice_get (enumerate_from 0 xs) i ≡ Some p → slice_get xs p.0 ≡ Some p.1
numbered_here xs i p at =
    let (number, here) = numbered_at 0 xs i p at in
    let same : p.0 ≡ i = omega (arith, number) in
    rw same here

pub all_get : {X : Type 0} (P : X → Type 0) (xs : List X) (i : ℕ) (x : X) → All P xs → slice_get xs i ≡ Some x → P x
all_get P xs i x all at = subst P (get_or_from_slice_get xs i x x at) (all i x (slice_get_within xs i x at))

pub get_within : {X : Type 0} (xs : List X) (i : ℕ) → i < length xs → (x : X) × (slice_get xs i ≡ Some x)
get_within [] i within = absurd (omega arith)
get_within (x ∷ xs) zero within = (x, refl)
get_within (x ∷ xs) (suc i) within = get_within xs i (omega arith)

pub get_past : {X : Type 0} (xs : List X) → slice_get xs (length xs) ≡ None
get_past [] = refl
get_past (x ∷ xs) = get_past xs

-- ---- lists whose items are related

pub zip_at : {A X : Type 0} (S : A → X → Type 0) (xs : List A) (ys : List X) (i : ℕ) (x : A) → AllZip S xs ys → slice_get xs i ≡ Some x → (y : X) × (slice_get ys i ≡ Some y) × S x y
zip_at S [] ys i x all at = absurd cc
zip_at S (z ∷ xs) [] i x all at = absurd all
zip_at {A} {X} S (z ∷ xs) (y ∷ ys) zero x all at = (y, refl, subst (λ (w : A). S w y) (some_same at) all.0)
zip_at S (z ∷ xs) (y ∷ ys) (suc i) x all at = zip_at S xs ys i x all.1 at

-- the same without the indices
pub zip_plain : {A X : Type 0} (S : A → ℕ × X → Type 0) (R : A → X → Type 0) → ((a : A) (p : ℕ × X) → S a p → R a p.1) → (n : ℕ) (things : List A) (xs : List X) → AllZip S things (enumerate_from n xs) → AllZip R things xs
zip_plain S R follows n [] [] all = tt
zip_plain S R follows n [] (x ∷ xs) all = absurd all
zip_plain S R follows n (a ∷ things) [] all = absurd all
zip_plain S R follows n (a ∷ things) (x ∷ xs) all = (follows a (n, x) all.0, zip_plain S R follows (n + 1) things xs all.1)

-- what follows for the first list alone
pub zip_each : {A X : Type 0} (S : A → X → Type 0) (P : A → Type 0) → ((a : A) (x : X) → S a x → P a) → (things : List A) (xs : List X) → AllZip S things xs → AllByRecursion P things
zip_each S P follows [] [] all = tt
zip_each S P follows [] (x ∷ xs) all = absurd all
zip_each S P follows (a ∷ things) [] all = absurd all
zip_each S P follows (a ∷ things) (x ∷ xs) all = (follows a x all.0, zip_each S P follows things xs all.1)

pub zip_length : {A X : Type 0} (S : A → X → Type 0) (xs : List A) (ys : List X) → AllZip S xs ys → length xs ≡ length ys
zip_length S [] [] all = refl
zip_length S [] (y ∷ ys) all = absurd all
zip_length S (x ∷ xs) [] all = absurd all
zip_length S (x ∷ xs) (y ∷ ys) all = ap suc (zip_length S xs ys all.1)
