-- Lists whose items are related one by one, and the items at an index.
use Rattle.ir_resolve.proofs.Common.{◌≡◌, ℕ, zero, suc, List, [], ◌∷◌, map, length, Some, refl, ap, slice_get, AllZip}
use Rattle.ir_resolve.proofs.Standing.{some_same}

module _ {X Y : Type 0} (R : X → Y → Type 0) where
  pub pair_of_second : (xs : List X) (ys : List Y) (k : ℕ) (y : Y) → AllZip R xs ys → slice_get ys k ≡ Some y → (x : X) × (slice_get xs k ≡ Some x) × R x y
  pair_of_second [] [] k y all at = cc
  pair_of_second [] (b ∷ ys) k y all at = absurd all
  pair_of_second (a ∷ xs) [] k y all at = absurd all
  pair_of_second (a ∷ xs) (b ∷ ys) zero y all at = (a, refl, rw (some_same at) at all.0)
  pair_of_second (a ∷ xs) (b ∷ ys) (suc k) y all at = pair_of_second xs ys k y all.1 at

  pub pair_of_first : (xs : List X) (ys : List Y) (k : ℕ) (x : X) → AllZip R xs ys → slice_get xs k ≡ Some x → (y : Y) × (slice_get ys k ≡ Some y) × R x y
  pair_of_first [] [] k x all at = cc
  pair_of_first [] (b ∷ ys) k x all at = absurd all
  pair_of_first (a ∷ xs) [] k x all at = absurd all
  pair_of_first (a ∷ xs) (b ∷ ys) zero x all at = (b, refl, rw (some_same at) at all.0)
  pair_of_first (a ∷ xs) (b ∷ ys) (suc k) x all at = pair_of_first xs ys k x all.1 at

  pub same_length : (xs : List X) (ys : List Y) → AllZip R xs ys → length xs ≡ length ys
  same_length [] [] all = refl
  same_length [] (b ∷ ys) all = absurd all
  same_length (a ∷ xs) [] all = absurd all
  same_length (a ∷ xs) (b ∷ ys) all = ap suc (same_length xs ys all.1)

  -- what is made of related items is related
  pub made_pairs : {A B : Type 0} (Q : A → B → Type 0) (f : A → X) (g : B → Y) → ((a : A) (b : B) → Q a b → R (f a) (g b)) → (xs : List A) (ys : List B) → AllZip Q xs ys → AllZip R (map f xs) (map g ys)
  made_pairs Q f g agree [] [] all = tt
  made_pairs Q f g agree [] (b ∷ ys) all = absurd all
  made_pairs Q f g agree (a ∷ xs) [] all = absurd all
  made_pairs Q f g agree (a ∷ xs) (b ∷ ys) all = (agree a b all.0, made_pairs Q f g agree xs ys all.1)
