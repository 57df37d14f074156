-- Lists whose items are related one by one, and predicates that hold of each item.
use Rattle.ir_resolve.proofs.Common.{◌≡◌, ℕ, ◌+◌, ◌<◌, ◌≤◌, List, [], ◌∷◌, ◌++◌, map, take, length, get_or, ap, sym, subst, ◌∙◌, AllZip, AllByRecursion, take_more, take_all, All-from_recursion}

zip_push : {X Y : Type 0} (R : X → Y → Type 0) (xs : List X) (ys : List Y) (x : X) (y : Y) → AllZip R xs ys → R x y → AllZip R (xs ++ x ∷ []) (ys ++ y ∷ [])
zip_push R [] [] x y all r = (r, tt)
zip_push R [] (b ∷ ys) x y all r = absurd all
zip_push R (a ∷ xs) [] x y all r = absurd all
zip_push R (a ∷ xs) (b ∷ ys) x y all r = (all.0, zip_push R xs ys x y all.1 r)

module _ {X Y : Type 0} (R : X → Y → Type 0) where
  -- one more pair
  pub zip_more : (xs : List X) (ys zs : List Y) (i : ℕ) (x : X) (y : Y) → i < length xs → x ≡ get_or xs i x → AllZip R (take i xs) ys → zs ≡ ys ++ y ∷ [] → R x y → AllZip R (take (i + 1) xs) zs
  zip_more xs ys zs i x y within is all more r =
      let front : take (i + 1) xs ≡ take i xs ++ x ∷ [] = take_more xs i x within ∙ ap (λ z. take i xs ++ z ∷ []) (sym is) in
      rw (front, more) (zip_push R (take i xs) ys x y all r)

  pub zip_all : (xs : List X) (ys : List Y) (i : ℕ) → length xs ≤ i → AllZip R (take i xs) ys → AllZip R xs ys
  zip_all xs ys i le all = subst (λ zs. AllZip R zs ys) (take_all i xs le) all

-- a predicate that holds of each item holds of the one at an index, and of its view
pub each_at : {X : Type 0} (P : X → Type 0) (xs : List X) (i : ℕ) (x : X) → i < length xs → x ≡ get_or xs i x → AllByRecursion P xs → P x
each_at P xs i x within is all = let at : P (get_or xs i x) = All-from_recursion P xs all i x within in rw is at

pub each_seen : {X Y : Type 0} (f : X → Y) (P : Y → Type 0) (xs : List X) → AllByRecursion P (map f xs) → AllByRecursion (λ x. P (f x)) xs
each_seen f P [] all = tt
each_seen f P (x ∷ xs) all = (all.0, each_seen f P xs all.1)

pub each_seen_at : {X Y : Type 0} (f : X → Y) (P : Y → Type 0) (xs : List X) (i : ℕ) (x : X) → i < length xs → x ≡ get_or xs i x → AllByRecursion P (map f xs) → P (f x)
each_seen_at f P xs i x within is all = each_at (λ y. P (f y)) xs i x within is (each_seen f P xs all)
