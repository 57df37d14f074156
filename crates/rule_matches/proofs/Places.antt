-- The items of a list to which one is appended, or in which one is replaced.
use Rattle.rule_matches.proofs.Common.{◌≡◌, ◌⊎◌, inl, inr, ℕ, zero, suc, ◌<◌, List, [], ◌∷◌, ◌++◌, length, Some, refl, sym, ap, ◌∙◌, arith, slice_get, slice_set, none-some, same_Some, slice_get_past}

pub some_at : {X : Type 0} (xs : List X) (k : ℕ) → k < length xs → (x : X) × (slice_get xs k ≡ Some x)
some_at [] k within = absurd (omega arith)
some_at (a ∷ xs) zero within = (a, refl)
some_at (a ∷ xs) (suc k) within = some_at xs k (omega arith)

pub not_past : {X : Type 0} (k : ℕ) (x : X) → slice_get [] k ≡ Some x → ⊥
not_past k x at = none-some x (sym (slice_get_past [] k (omega arith)) ∙ at)

pub pushed_cases : {X : Type 0} (xs : List X) (y : X) (k : ℕ) (x : X) → slice_get (xs ++ y ∷ []) k ≡ Some x → (slice_get xs k ≡ Some x) ⊎ ((k ≡ length xs) × (x ≡ y))
pushed_cases [] y zero x at = inr (refl, sym (same_Some y x at))
pushed_cases [] y (suc k) x at = absurd (not_past k x at)
pushed_cases (a ∷ xs) y zero x at = inl at
pushed_cases (a ∷ xs) y (suc k) x at = elim (pushed_cases xs y k x at) [
  | inl before ↦ inl before
  | inr last ↦ inr (ap suc last.0, last.1)
]

pub set_cases : {X : Type 0} (xs : List X) (i : ℕ) (y : X) (k : ℕ) (x : X) → slice_get (slice_set xs i y) k ≡ Some x → ((k ≡ i) × (x ≡ y)) ⊎ (slice_get xs k ≡ Some x)
set_cases [] i y k x at = inr at
set_cases (a ∷ xs) zero y zero x at = inl (refl, sym (same_Some y x at))
set_cases (a ∷ xs) zero y (suc k) x at = inr at
set_cases (a ∷ xs) (suc i) y zero x at = inr at
set_cases (a ∷ xs) (suc i) y (suc k) x at = elim (set_cases xs i y k x at) [
  | inl here ↦ inl (ap suc here.0, here.1)
  | inr other ↦ inr other
]

pub set_here : {X : Type 0} (xs : List X) (i : ℕ) (y x : X) → slice_get xs i ≡ Some x → slice_get (slice_set xs i y) i ≡ Some y
set_here [] i y x at = absurd (not_past i x at)
set_here (a ∷ xs) zero y x at = refl
set_here (a ∷ xs) (suc i) y x at = set_here xs i y x at

pub set_elsewhere : {X : Type 0} (xs : List X) (i : ℕ) (y : X) (k : ℕ) (x : X) → (k ≡ i → ⊥) → slice_get xs k ≡ Some x → slice_get (slice_set xs i y) k ≡ Some x
set_elsewhere [] i y k x other at = at
set_elsewhere (a ∷ xs) zero y zero x other at = absurd (other refl)
set_elsewhere (a ∷ xs) zero y (suc k) x other at = at
set_elsewhere (a ∷ xs) (suc i) y zero x other at = at
set_elsewhere (a ∷ xs) (suc i) y (suc k) x other at = set_elsewhere xs i y k x (λ e. other (ap suc e)) at
