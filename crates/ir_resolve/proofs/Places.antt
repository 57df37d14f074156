-- Items of a list and of its prefixes, by index.
use Rattle.ir_resolve.proofs.Common.{◌≡◌, ℕ, zero, suc, ◌<◌, List, [], ◌∷◌, length, take, Some, refl, sym, ap, ◌∙◌, arith, Contains, slice_get, length-take, slice_get_within, slice_get-get_or, get_or_from_slice_get}

pub place_of_contained : {X : Type 0} (xs : List X) (x : X) → Contains xs x → (j : ℕ) × (slice_get xs j ≡ Some x)
place_of_contained xs x (j, lt, is) = (j, slice_get-get_or xs j x lt ∙ ap Some is)

pub contained_at : {X : Type 0} (xs : List X) (j : ℕ) (x : X) → slice_get xs j ≡ Some x → Contains xs x
contained_at xs j x at = (j, slice_get_within xs j x at, get_or_from_slice_get xs j x x at)

slice_get-take : {X : Type 0} (i : ℕ) (xs : List X) (j : ℕ) → j < i → slice_get (take i xs) j ≡ slice_get xs j
slice_get-take zero xs j lt = absurd (omega arith)
slice_get-take (suc i) [] j lt = refl
slice_get-take (suc i) (x ∷ xs) zero lt = refl
slice_get-take (suc i) (x ∷ xs) (suc j) lt = slice_get-take i xs j (omega arith)

pub place_before : {X : Type 0} (i : ℕ) (xs : List X) (x : X) → Contains (take i xs) x → (j : ℕ) × (j < i) × (slice_get xs j ≡ Some x)
place_before i xs x in_front =
    let (j, at) = place_of_contained (take i xs) x in_front in
    let within : j < length (take i xs) = slice_get_within (take i xs) j x at in
    let lt : j < i = omega (arith, length-take i xs) in
    (j, lt, sym (slice_get-take i xs j lt) ∙ at)

pub before_place : {X : Type 0} (i : ℕ) (xs : List X) (x : X) (j : ℕ) → j < i → slice_get xs j ≡ Some x → Contains (take i xs) x
before_place i xs x j lt at = contained_at (take i xs) j x (slice_get-take i xs j lt ∙ at)
