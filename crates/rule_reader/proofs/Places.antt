-- Elements of lists by their places.
use Rattle.rule_reader.proofs.Common.{◌≡◌, ◌⊎◌, inl, inr, ℕ, zero, suc, ◌+◌, ◌-◌, ◌<◌, List, [], ◌∷◌, ◌++◌, length, take, Some, refl, sym, ap, subst, ◌∙◌, arith, get_or, slice_get, Contains, map, AllZip, cases_lt, slice_get-get_or, same_Some}

-- two numbers are below, equal or above
pub order : (m n : ℕ) → (m < n) ⊎ ((m ≡ n) ⊎ (n < m))
order m n = elim (cases_lt m n) [ inl lt ↦ inl lt | inr ge ↦ elim (cases_lt n m) [ inl gt ↦ inr (inr gt) | inr le ↦ inr (inl (omega arith)) ] ]

pub same_at : {X : Type 0} (xs : List X) (k : ℕ) (x y : X) → slice_get xs k ≡ Some x → slice_get xs k ≡ Some y → x ≡ y
same_at xs k x y p q = same_Some x y (sym p ∙ q)

-- the item that a loop reads at k is element k
pub read_at : {X : Type 0} (xs : List X) (k : ℕ) (x : X) → k < length xs → x ≡ get_or xs k x → slice_get xs k ≡ Some x
read_at xs k x within is = slice_get-get_or xs k x within ∙ ap (λ y. Some y) (sym is)

-- the last item of a list that the code sees as `ys` is its last element
pub read_last : {X : Type 0} (xs ys : List X) (n : ℕ) (x : X) → ys ≡ xs → n ≡ length xs → 0 < length xs → x ≡ get_or ys (n - 1) x → slice_get xs (length xs - 1) ≡ Some x
read_last xs ys n x is len some read = read_at xs (length xs - 1) x (omega arith) (read ∙ ap (λ l. get_or l (n - 1) x) is ∙ ap (λ m. get_or xs (m - 1) x) len)

-- an element stands at each place within
pub there : {X : Type 0} (xs : List X) (k : ℕ) → k < length xs → (x : X) × (slice_get xs k ≡ Some x)
there [] k within = absurd (omega arith)
there (x ∷ xs) zero within = (x, refl)
there (x ∷ xs) (suc k) within = there xs k (omega arith)

-- an element is at some place
pub somewhere : {X : Type 0} (xs : List X) (x : X) → Contains xs x → (k : ℕ) × (slice_get xs k ≡ Some x)
somewhere xs x (k, within, is) = (k, slice_get-get_or xs k x within ∙ ap (λ y. Some y) is)

-- an element of a prefix is one of the list
pub at_take : {X : Type 0} (n : ℕ) (xs : List X) (k : ℕ) (x : X) → slice_get (take n xs) k ≡ Some x → (k < n) × (slice_get xs k ≡ Some x)
at_take zero xs k x at = elim k as (λ j. slice_get [] j ≡ Some x → (j < 0) × (slice_get xs j ≡ Some x)) [ zero ↦ λ h. cc | suc j ↦ λ h. cc ] at
at_take (suc n) [] k x at = elim k as (λ j. slice_get [] j ≡ Some x → (j < suc n) × (slice_get [] j ≡ Some x)) [ zero ↦ λ h. cc | suc j ↦ λ h. cc ] at
at_take (suc n) (y ∷ xs) zero x at = (omega arith, at)
at_take (suc n) (y ∷ xs) (suc k) x at = let rest = at_take n xs k x at in (omega (arith, rest.0), rest.1)

pub take_at : {X : Type 0} (n : ℕ) (xs : List X) (k : ℕ) (x : X) → k < n → slice_get xs k ≡ Some x → slice_get (take n xs) k ≡ Some x
take_at zero xs k x lt at = absurd (omega arith)
take_at (suc n) [] k x lt at = at
take_at (suc n) (y ∷ xs) zero x lt at = at
take_at (suc n) (y ∷ xs) (suc k) x lt at = take_at n xs k x (omega arith) at

-- an element of two lists, one behind the other, is one of either
pub at_append : {X : Type 0} (xs ys : List X) (k : ℕ) (x : X) → slice_get (xs ++ ys) k ≡ Some x → (slice_get xs k ≡ Some x) ⊎ ((j : ℕ) × (k ≡ length xs + j) × (slice_get ys j ≡ Some x))
at_append [] ys k x at = inr (k, omega arith, at)
at_append (a ∷ xs) ys zero x at = inl at
at_append (a ∷ xs) ys (suc k) x at = elim (at_append xs ys k x at) [ inl here ↦ inl here | inr (j, is, there) ↦ inr (j, omega arith, there) ]

-- an element of `map f` is f of the one at its place
pub at_map : {X Y : Type 0} (f : X → Y) (xs : List X) (k : ℕ) (y : Y) → slice_get (map f xs) k ≡ Some y → (x : X) × (slice_get xs k ≡ Some x) × (f x ≡ y)
at_map f [] k y at = elim k as (λ j. slice_get [] j ≡ Some y → (x : _) × (slice_get [] j ≡ Some x) × (f x ≡ y)) [ zero ↦ λ h. cc | suc j ↦ λ h. cc ] at
at_map f (x ∷ xs) zero y at = (x, refl, same_Some (f x) y at)
at_map f (x ∷ xs) (suc k) y at = at_map f xs k y at

pub map_at : {X Y : Type 0} (f : X → Y) (xs : List X) (k : ℕ) (x : X) → slice_get xs k ≡ Some x → slice_get (map f xs) k ≡ Some (f x)
map_at f [] k x at = elim k as (λ j. slice_get [] j ≡ Some x → slice_get [] j ≡ Some (f x)) [ zero ↦ λ h. cc | suc j ↦ λ h. cc ] at
map_at f (a ∷ xs) zero x at = ap (λ y. Some (f y)) (same_Some a x at)
map_at f (a ∷ xs) (suc k) x at = map_at f xs k x at

-- Where two lists go together element by element, each has an element at every place of the other.
pub zip_right : {X Y : Type 0} (R : X → Y → Type 0) (xs : List X) (ys : List Y) (k : ℕ) (y : Y) → AllZip R xs ys → slice_get ys k ≡ Some y → (x : X) × (slice_get xs k ≡ Some x) × R x y
zip_right R [] [] k y all at = elim k as (λ j. slice_get [] j ≡ Some y → (x : _) × (slice_get [] j ≡ Some x) × R x y) [ zero ↦ λ h. cc | suc j ↦ λ h. cc ] at
zip_right R [] (b ∷ ys) k y all at = absurd all
zip_right R (a ∷ xs) [] k y all at = absurd all
zip_right R (a ∷ xs) (b ∷ ys) zero y all at = (a, refl, subst (R a) (same_Some b y at) all.0)
zip_right R (a ∷ xs) (b ∷ ys) (suc k) y all at = zip_right R xs ys k y all.1 at

pub zip_left : {X Y : Type 0} (R : X → Y → Type 0) (xs : List X) (ys : List Y) (k : ℕ) (x : X) → AllZip R xs ys → slice_get xs k ≡ Some x → (y : Y) × (slice_get ys k ≡ Some y) × R x y
zip_left R [] [] k x all at = elim k as (λ j. slice_get [] j ≡ Some x → (y : _) × (slice_get [] j ≡ Some y) × R x y) [ zero ↦ λ h. cc | suc j ↦ λ h. cc ] at
zip_left R [] (b ∷ ys) k x all at = absurd all
zip_left R (a ∷ xs) [] k x all at = absurd all
zip_left R (a ∷ xs) (b ∷ ys) zero x all at = (b, refl, subst (λ z. R z b) (same_Some a x at) all.0)
zip_left R (a ∷ xs) (b ∷ ys) (suc k) x all at = zip_left R xs ys k x all.1 at

pub zip_push : {X Y : Type 0} (R : X → Y → Type 0) (xs : List X) (ys : List Y) (x : X) (y : Y) → AllZip R xs ys → R x y → AllZip R (xs ++ x ∷ []) (ys ++ y ∷ [])
zip_push R [] [] x y all r = (r, tt)
zip_push R [] (b ∷ ys) x y all r = absurd all
zip_push R (a ∷ xs) [] x y all r = absurd all
zip_push R (a ∷ xs) (b ∷ ys) x y all r = (all.0, zip_push R xs ys x y all.1 r)

pub zip_length : {X Y : Type 0} (R : X → Y → Type 0) (xs : List X) (ys : List Y) → AllZip R xs ys → length ys ≡ length xs
zip_length R [] [] all = refl
zip_length R [] (b ∷ ys) all = absurd all
zip_length R (a ∷ xs) [] all = absurd all
zip_length R (a ∷ xs) (b ∷ ys) all = ap suc (zip_length R xs ys all.1)

pub zip_append : {X Y : Type 0} (R : X → Y → Type 0) (ws : List X) (ys : List Y) (xs : List X) (zs : List Y) → AllZip R ws ys → AllZip R xs zs → AllZip R (ws ++ xs) (ys ++ zs)
zip_append R [] [] xs zs p q = q
zip_append R [] (b ∷ ys) xs zs p q = absurd p
zip_append R (a ∷ ws) [] xs zs p q = absurd p
zip_append R (a ∷ ws) (b ∷ ys) xs zs p q = (p.0, zip_append R ws ys xs zs p.1 q)
