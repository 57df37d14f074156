-- Elements of lists, of `flat_map`, and what holds of each.
use Rattle.rule_reader.proofs.Common.{◌≡◌, inl, inr, ℕ, zero, suc, ◌+◌, ◌<◌, ◌≤◌, List, [], ◌∷◌, ◌++◌, length, Some, refl, sym, ap, subst, ◌∙◌, take, get_or, take_more, take_all, same_Some, slice_get, Contains, flat_map, Contains-from_get, Contains-flat_map, Each}
use Rattle.rule_reader.proofs.Places.{at_append, somewhere, read_at}

-- an element of `flat_map f` is one of f x, for some x
pub flat_at : {X Y : Type 0} (f : X → List Y) (xs : List X) (q : ℕ) (y : Y) → slice_get (flat_map f xs) q ≡ Some y → (k : ℕ) × (x : X) × (slice_get xs k ≡ Some x) × Contains (f x) y
flat_at f [] q y at = elim q as (λ j. slice_get [] j ≡ Some y → (k : ℕ) × (x : _) × (slice_get [] k ≡ Some x) × Contains (f x) y) [ zero ↦ λ h. cc | suc j ↦ λ h. cc ] at
flat_at f (a ∷ xs) q y at = elim (at_append (f a) (flat_map f xs) q y at) [
  | inl here ↦ (0, a, refl, Contains-from_get (f a) q y here)
  | inr (j, is, there) ↦ let rest = flat_at f xs j y there in (suc rest.0, rest.1, rest.2, rest.3)
]

pub at_flat : {X Y : Type 0} (f : X → List Y) (xs : List X) (k : ℕ) (x : X) (y : Y) → slice_get xs k ≡ Some x → Contains (f x) y → (q : ℕ) × (slice_get (flat_map f xs) q ≡ Some y)
at_flat f xs k x y at among = somewhere (flat_map f xs) y (Contains-flat_map f xs x y (Contains-from_get xs k x at) among)

pub Contains-behind : {X : Type 0} (x : X) (xs : List X) (y : X) → Contains xs y → Contains (x ∷ xs) y
Contains-behind x xs y among = let (k, at) = somewhere xs y among in Contains-from_get (x ∷ xs) (suc k) y at

-- what holds of each element holds of the one at this place
pub each_at : {X : Type 0} (P : X → Type 0) (xs : List X) (k : ℕ) (x : X) → Each P xs → slice_get xs k ≡ Some x → P x
each_at P [] k x each at = elim k as (λ j. slice_get [] j ≡ Some x → P x) [ zero ↦ λ h. absurd (cc) | suc j ↦ λ h. absurd (cc) ] at
each_at P (y ∷ xs) zero x each at = subst P (same_Some y x at) each.0
each_at P (y ∷ xs) (suc k) x each at = each_at P xs k x each.1 at

pub each_in : {X : Type 0} (P : X → Type 0) (xs : List X) (x : X) → Each P xs → Contains xs x → P x
each_in P xs x each among = let (k, at) = somewhere xs x among in each_at P xs k x each at

pub each_of : {X : Type 0} (P : X → Type 0) (xs : List X) → ((x : X) → Contains xs x → P x) → Each P xs
each_of P [] all = tt
each_of P (x ∷ xs) all = (all x (Contains-from_get (x ∷ xs) 0 x refl), each_of P xs (λ y among. all y (Contains-behind x xs y among)))

pub each_push : {X : Type 0} (P : X → Type 0) (xs : List X) (x : X) → Each P xs → P x → Each P (xs ++ x ∷ [])
each_push P [] x each p = (p, tt)
each_push P (y ∷ xs) x each p = (each.0, each_push P xs x each.1 p)

-- what holds of the first k elements and of the next holds of the first k + 1
pub each_more : {X : Type 0} (P : X → Type 0) (xs : List X) (k : ℕ) (x : X) → k < length xs → x ≡ get_or xs k x → Each P (take k xs) → P x → Each P (take (k + 1) xs)
each_more P xs k x within is each p = subst (Each P) (sym (take_more xs k x within ∙ ap (λ z. take k xs ++ z ∷ []) (sym is))) (each_push P (take k xs) x each p)

-- what does not hold of one does not hold of each
pub not_each : {X : Type 0} (P : X → Type 0) (xs : List X) (k : ℕ) (x : X) → k < length xs → x ≡ get_or xs k x → ¬ P x → ¬ Each P xs
not_each P xs k x within is not each = not (each_at P xs k x each (read_at xs k x within is))

pub each_all : {X : Type 0} (P : X → Type 0) (xs : List X) (k : ℕ) → length xs ≤ k → Each P (take k xs) → Each P xs
each_all P xs k past each = subst (Each P) (take_all k xs past) each

pub each_append : {X : Type 0} (P : X → Type 0) (xs ys : List X) → Each P xs → Each P ys → Each P (xs ++ ys)
each_append P [] ys each others = others
each_append P (x ∷ xs) ys each others = (each.0, each_append P xs ys each.1 others)

-- what holds of each element of each f x holds of each of `flat_map f`
pub each_flat : {X Y : Type 0} (P : Y → Type 0) (f : X → List Y) (xs : List X) → Each (λ x. Each P (f x)) xs → Each P (flat_map f xs)
each_flat P f [] each = tt
each_flat P f (x ∷ xs) each = each_append P (f x) (flat_map f xs) each.0 (each_flat P f xs each.1)
