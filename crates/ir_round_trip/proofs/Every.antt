-- Predicates that hold of every item of a list.
use Rattle.ir_round_trip.proofs.Common.{◌≡◌, ℕ, zero, suc, List, [], ◌∷◌, ◌++◌, map, get_or, Some, subst, arith, slice_get, All, AllByRecursion, AllZip, slice_get-get_or, same_Some}

module _ {X : Type 0} (P : X → Type 0) where
  pub every_at : (xs : List X) (k : ℕ) (x : X) → AllByRecursion P xs → slice_get xs k ≡ Some x → P x
  every_at [] k x every at = cc
  every_at (y ∷ xs) zero x every at = subst P (same_Some y x at) every.0
  every_at (y ∷ xs) (suc k) x every at = every_at xs k x every.1 at

  pub every_all : (xs : List X) → AllByRecursion P xs → All P xs
  every_all xs every k d within = every_at xs k (get_or xs k d) every (slice_get-get_or xs k d within)

  pub all_every : (xs : List X) → All P xs → AllByRecursion P xs
  all_every [] all = tt
  all_every (x ∷ xs) all = (all 0 x (omega arith), all_every xs (λ k d within. all (suc k) d (omega arith)))

  pub every_append : (xs ys : List X) → AllByRecursion P xs → AllByRecursion P ys → AllByRecursion P (xs ++ ys)
  every_append [] ys first second = second
  every_append (x ∷ xs) ys first second = (first.0, every_append xs ys first.1 second)

  pub every_left : (xs ys : List X) → AllByRecursion P (xs ++ ys) → AllByRecursion P xs
  every_left [] ys all = tt
  every_left (x ∷ xs) ys all = (all.0, every_left xs ys all.1)

  pub every_right : (xs ys : List X) → AllByRecursion P (xs ++ ys) → AllByRecursion P ys
  every_right [] ys all = all
  every_right (x ∷ xs) ys all = every_right xs ys all.1

-- a predicate of related items, from one that holds of every item of the first list
pub every_zip : {X Y : Type 0} (R : X → Y → Type 0) (P : X → Type 0) (Q : Y → Type 0) → ((x : X) (y : Y) → R x y → P x → Q y) → (xs : List X) (ys : List Y) → AllZip R xs ys → AllByRecursion P xs → AllByRecursion Q ys
every_zip R P Q f [] [] all every = tt
every_zip R P Q f [] (y ∷ ys) all every = absurd all
every_zip R P Q f (x ∷ xs) [] all every = absurd all
every_zip R P Q f (x ∷ xs) (y ∷ ys) all every = (f x y all.0 every.0, every_zip R P Q f xs ys all.1 every.1)

pub every_map : {X Y : Type 0} (f : X → Y) (P : X → Type 0) (Q : Y → Type 0) → ((x : X) → P x → Q (f x)) → (xs : List X) → AllByRecursion P xs → AllByRecursion Q (map f xs)
every_map f P Q g [] every = tt
every_map f P Q g (x ∷ xs) every = (g x every.0, every_map f P Q g xs every.1)
