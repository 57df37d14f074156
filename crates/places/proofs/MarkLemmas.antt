-- Rows of flags: none set, one more row, and a flag that is set.
use Rattle.places.proofs.Common.{◌≡◌, ℕ, zero, suc, true, [], ◌∷◌, ◌++◌, get_or, Some, refl, subst, slice_get, Rows, Has}

-- one more row without flags
pub empty_row : (rows : Rows) (b : ℕ) → get_or (rows ++ [] ∷ []) b [] ≡ get_or rows b []
empty_row [] zero = refl
empty_row [] (suc b) = refl
empty_row (row ∷ rows) zero = refl
empty_row (row ∷ rows) (suc b) = empty_row rows b

pub none_more : (rows : Rows) → ((b n : ℕ) → ¬ Has rows b n) → (b n : ℕ) → ¬ Has (rows ++ [] ∷ []) b n
none_more rows none b n h = none b n (subst (λ row. slice_get row n ≡ Some true) (empty_row rows b) h)

pub none_has : (b n : ℕ) → ¬ Has [] b n
none_has b n h = absurd cc
