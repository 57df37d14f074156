-- A list with a change at one place.
use Rattle.draft_steps.proofs.Common.{◌≡◌, ◌≢◌, ℕ, zero, suc, List, [], ◌∷◌, length, None, Some, refl, ap, slice_get, option_map, changed_at}

pub changed_here : {A : Type 0} (k : ℕ) (change : A → A) (xs : List A) → slice_get (changed_at k change xs) k ≡ option_map change (slice_get xs k)
changed_here k change [] = refl
changed_here zero change (x ∷ xs) = refl
changed_here (suc k) change (x ∷ xs) = changed_here k change xs

pub changed_other : {A : Type 0} (k : ℕ) (change : A → A) (xs : List A) (j : ℕ) → j ≢ k → slice_get (changed_at k change xs) j ≡ slice_get xs j
changed_other k change [] j ne = refl
changed_other zero change (x ∷ xs) zero ne = absurd (ne refl)
changed_other zero change (x ∷ xs) (suc j) ne = refl
changed_other (suc k) change (x ∷ xs) zero ne = refl
changed_other (suc k) change (x ∷ xs) (suc j) ne = changed_other k change xs j (λ e. ne (ap suc e))

pub length-changed : {A : Type 0} (k : ℕ) (change : A → A) (xs : List A) → length (changed_at k change xs) ≡ length xs
length-changed k change [] = refl
length-changed zero change (x ∷ xs) = refl
length-changed (suc k) change (x ∷ xs) = ap suc (length-changed k change xs)

-- lists with the same items are one
pub same_items : {A : Type 0} (xs ys : List A) → ((i : ℕ) → slice_get xs i ≡ slice_get ys i) → xs ≡ ys
same_items [] [] same = refl
same_items [] (y ∷ ys) same = absurd (let e : None ≡ Some y = same 0 in cc)
same_items (x ∷ xs) [] same = absurd (let e : Some x ≡ None = same 0 in cc)
same_items (x ∷ xs) (y ∷ ys) same =
    let e : Some x ≡ Some y = same 0 in
    let rest : xs ≡ ys = same_items xs ys (λ i. same (suc i)) in
    cc
