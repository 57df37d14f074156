-- An evaluation in order, written to an array from its front.
use Rattle.precond.proofs.Common.{◌≡◌, ℕ, ◌+◌, ◌-◌, ◌<◌, List, [], ◌∷◌, ◌++◌, length, take, Some, sym, slice_get, set, take_more_set, in_turn, in_turn-step}

module _ {X Y : Type 0} (gives : List Y → X → Y) (xs : List X) (ys : List Y) where
  -- one more result is written
  pub stored : (i : ℕ) (x : X) (y : Y) → slice_get xs i ≡ Some x → i < length ys → take i ys ≡ in_turn gives [] (take i xs) → y ≡ gives (take i ys) x
      → take (i + 1) (set ys i y) ≡ in_turn gives [] (take (i + 1) xs)
  stored i x y at within are is =
      let store : take (i + 1) (set ys i y) ≡ take i ys ++ y ∷ [] = take_more_set ys i y within in
      rw (store, is, are) (sym (in_turn-step gives xs i x at))
