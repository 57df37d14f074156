-- Elements of lists under `map`, and of two lists with the same image.
use Rattle.rule_typing.proofs.Common.{◌≡◌, ◌⊎◌, inl, inr, ℕ, zero, suc, ◌+◌, List, [], ◌∷◌, ◌++◌, length, map, Option, None, Some, refl, sym, ap, ◌∙◌, subst, arith, zero-add, slice_get, option_map, Contains, flat_map, slice_get-map, same_Some, Contains-append_cases}

pub map-map : {X Y Z : Type 0} (g : Y → Z) (f : X → Y) (xs : List X) → map g (map f xs) ≡ map (λ x. g (f x)) xs
map-map g f [] = refl
map-map g f (x ∷ xs) = ap (λ l. g (f x) ∷ l) (map-map g f xs)

pub Contains-later : {X : Type 0} (a : X) (xs : List X) (x : X) → Contains xs x → Contains (a ∷ xs) x
Contains-later a xs x (k, within, is) = (suc k, omega arith, is)

-- the image of an element is an element of the image, and each element of the image is one of these
pub Contains-map : {X Y : Type 0} (f : X → Y) (xs : List X) (x : X) → Contains xs x → Contains (map f xs) (f x)
Contains-map f [] x (k, within, is) = absurd (omega arith)
Contains-map f (a ∷ xs) x (zero, within, is) = (0, omega arith, ap f is)
Contains-map f (a ∷ xs) x (suc k, within, is) = Contains-later (f a) (map f xs) (f x) (Contains-map f xs x (k, omega arith, is))

pub from_map : {X Y : Type 0} (f : X → Y) (xs : List X) (y : Y) → Contains (map f xs) y → (x : X) × Contains xs x × (y ≡ f x)
from_map f [] y (k, within, is) = absurd (omega arith)
from_map f (a ∷ xs) y (zero, within, is) = (a, (0, omega arith, refl), sym is)
from_map f (a ∷ xs) y (suc k, within, is) = let rest = from_map f xs y (k, omega arith, is) in (rest.0, Contains-later a xs rest.0 rest.1, rest.2)

pub from_option_map : {X Y : Type 0} (f : X → Y) (o : Option X) (y : Y) → option_map f o ≡ Some y → (x : X) × (o ≡ Some x) × (f x ≡ y)
from_option_map f None y e = cc
from_option_map f (Some x) y e = (x, refl, same_Some (f x) y e)

pub get_from_map : {X Y : Type 0} (f : X → Y) (xs : List X) (k : ℕ) (y : Y) → slice_get (map f xs) k ≡ Some y → (x : X) × (slice_get xs k ≡ Some x) × (f x ≡ y)
get_from_map f xs k y at = from_option_map f (slice_get xs k) y (sym (slice_get-map f xs k) ∙ at)

pub get-map : {X Y : Type 0} (f : X → Y) (xs : List X) (k : ℕ) (x : X) → slice_get xs k ≡ Some x → slice_get (map f xs) k ≡ Some (f x)
get-map f xs k x at = slice_get-map f xs k ∙ ap (λ o. option_map f o) at

-- where two lists have one image, elements at one place have one image
pub same_get : {X Y : Type 0} (f : X → Y) (xs ys : List X) (k : ℕ) (y : X) → map f xs ≡ map f ys → slice_get ys k ≡ Some y → (x : X) × (slice_get xs k ≡ Some x) × (f x ≡ f y)
same_get f xs ys k y same at = get_from_map f xs k (f y) (ap (λ l. slice_get l k) same ∙ get-map f ys k y at)

pub same_among : {X Y : Type 0} (f : X → Y) (xs ys : List X) (y : X) → map f xs ≡ map f ys → Contains ys y → (x : X) × Contains xs x × (f y ≡ f x)
same_among f xs ys y same among = from_map f xs (f y) (subst (λ l. Contains l (f y)) (sym same) (Contains-map f ys y among))

-- an element of two lists, one behind the other, is one of the first, or one of the second, counted from its beginning
pub get-append_cases : {X : Type 0} (xs ys : List X) (k : ℕ) (x : X) → slice_get (xs ++ ys) k ≡ Some x → (slice_get xs k ≡ Some x) ⊎ ((j : ℕ) × (k ≡ length xs + j) × (slice_get ys j ≡ Some x))
get-append_cases [] ys k x at = inr (k, sym (zero-add k), at)
get-append_cases (a ∷ xs) ys zero x at = inl at
get-append_cases (a ∷ xs) ys (suc k) x at = elim (get-append_cases xs ys k x at) [
  | inl here ↦ inl here
  | inr (j, place, there) ↦ inr (j, omega arith, there)
]

-- an element of `flat_map f` is one of f x, for some element x
pub from_flat_map : {X Y : Type 0} (f : X → List Y) (xs : List X) (y : Y) → Contains (flat_map f xs) y → (x : X) × Contains xs x × Contains (f x) y
from_flat_map f [] y (k, within, is) = absurd (omega arith)
from_flat_map f (a ∷ xs) y among = elim (Contains-append_cases (f a) (flat_map f xs) y among) [
  | inl here ↦ (a, (0, omega arith, refl), here)
  | inr later ↦ let rest = from_flat_map f xs y later in (rest.0, Contains-later a xs rest.0 rest.1, rest.2)
]
