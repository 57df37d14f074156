-- Items of a list by index.
use Rattle.ir_reader.proofs.Common.{◌≡◌, ◌⊎◌, inl, inr, ℕ, zero, suc, ◌+◌, ◌<◌, List, [], ◌∷◌, ◌++◌, length, take, get_or, Some, refl, sym, ap, subst, ◌∙◌, arith, slice_get, Contains, AllZip, cases_lt, slice_get-get_or, slice_get_within, get_or_from_slice_get, same_Some}

-- two numbers are in one order or the other, or are equal
pub order : (m n : ℕ) → (m < n) ⊎ ((m ≡ n) ⊎ (n < m))
order m n = elim (cases_lt m n) [ inl lt ↦ inl lt | inr ge ↦ elim (cases_lt n m) [ inl gt ↦ inr (inr gt) | inr le ↦ inr (inl (omega arith)) ] ]

module _ {X : Type 0} where
  pub same_at : (xs : List X) (k : ℕ) (x y : X) → slice_get xs k ≡ Some x → slice_get xs k ≡ Some y → x ≡ y
  same_at xs k x y p q = same_Some x y (sym p ∙ q)

  -- the item that a loop has read stands at its index
  pub read_at : (xs : List X) (k : ℕ) (x : X) → k < length xs → x ≡ get_or xs k x → slice_get xs k ≡ Some x
  read_at xs k x within is = slice_get-get_or xs k x within ∙ ap (λ y. Some y) (sym is)

  -- the item that the code looks up in an equal list
  pub seen_at : (seen xs : List X) (k : ℕ) (d : X) → seen ≡ xs → k < length seen → slice_get xs k ≡ Some (get_or seen k d)
  seen_at seen xs k d is within = subst (λ l. slice_get l k ≡ Some (get_or seen k d)) is (slice_get-get_or seen k d within)

  pub item_at : (seen xs : List X) (k : ℕ) (x : X) → seen ≡ xs → k < length seen → x ≡ get_or seen k x → slice_get xs k ≡ Some x
  item_at seen xs k x is within item = subst (λ l. slice_get l k ≡ Some x) is (read_at seen k x within item)

  -- there is an item at each index below the length
  pub there : (xs : List X) (k : ℕ) → k < length xs → (x : X) × (slice_get xs k ≡ Some x)
  there [] k within = absurd (omega arith)
  there (x ∷ xs) zero within = (x, refl)
  there (x ∷ xs) (suc k) within = there xs k (omega arith)

  pub somewhere : (xs : List X) (x : X) → Contains xs x → (k : ℕ) × (slice_get xs k ≡ Some x)
  somewhere xs x (k, within, is) = (k, slice_get-get_or xs k x within ∙ ap (λ y. Some y) is)

  pub contained : (xs : List X) (k : ℕ) (x : X) → slice_get xs k ≡ Some x → Contains xs x
  contained xs k x at = (k, slice_get_within xs k x at, get_or_from_slice_get xs k x x at)

  pub take_at : (n : ℕ) (xs : List X) (k : ℕ) (x : X) → k < n → slice_get xs k ≡ Some x → slice_get (take n xs) k ≡ Some x
  take_at zero xs k x lt at = absurd (omega arith)
  take_at (suc n) [] k x lt at = at
  take_at (suc n) (y ∷ xs) zero x lt at = at
  take_at (suc n) (y ∷ xs) (suc k) x lt at = take_at n xs k x (omega arith) at

  -- an item of a concatenation is one of the one list or of the other
  pub at_append : (xs ys : List X) (k : ℕ) (x : X) → slice_get (xs ++ ys) k ≡ Some x → (slice_get xs k ≡ Some x) ⊎ ((j : ℕ) × (k ≡ length xs + j) × (slice_get ys j ≡ Some x))
  at_append [] ys k x at = inr (k, omega arith, at)
  at_append (a ∷ xs) ys zero x at = inl at
  at_append (a ∷ xs) ys (suc k) x at = elim (at_append xs ys k x at) [ inl here ↦ inl here | inr (j, is, there) ↦ inr (j, omega arith, there) ]

  -- the same for a list and one more item
  pub at_push : (xs : List X) (y : X) (k : ℕ) (x : X) → slice_get (xs ++ y ∷ []) k ≡ Some x → (slice_get xs k ≡ Some x) ⊎ ((k ≡ length xs) × (y ≡ x))
  at_push xs y k x at = elim (at_append xs (y ∷ []) k x at) [
    | inl old ↦ inl old
    | inr (zero, is, last) ↦ inr (omega arith, same_Some y x last)
    | inr (suc j, is, last) ↦ cc
  ]

  pub append_left : (xs ys : List X) (k : ℕ) (x : X) → slice_get xs k ≡ Some x → slice_get (xs ++ ys) k ≡ Some x
  append_left [] ys k x at = cc
  append_left (a ∷ xs) ys zero x at = at
  append_left (a ∷ xs) ys (suc k) x at = append_left xs ys k x at

  pub append_right : (xs ys : List X) (k j : ℕ) (x : X) → k ≡ length xs + j → slice_get ys j ≡ Some x → slice_get (xs ++ ys) k ≡ Some x
  append_right [] ys k j x is at = subst (λ n. slice_get ys n ≡ Some x) (omega arith) at
  append_right (a ∷ xs) ys zero j x is at = absurd (omega arith)
  append_right (a ∷ xs) ys (suc k) j x is at = append_right xs ys k j x (omega arith) at

-- Of two lists whose items are related one by one, an item of either is related to the one of the other at its index.
module _ {X Y : Type 0} (R : X → Y → Type 0) where
  pub zip_right : (xs : List X) (ys : List Y) (k : ℕ) (y : Y) → AllZip R xs ys → slice_get ys k ≡ Some y → (x : X) × (slice_get xs k ≡ Some x) × R x y
  zip_right [] [] k y all at = cc
  zip_right [] (b ∷ ys) k y all at = absurd all
  zip_right (a ∷ xs) [] k y all at = absurd all
  zip_right (a ∷ xs) (b ∷ ys) zero y all at = (a, refl, subst (R a) (same_Some b y at) all.0)
  zip_right (a ∷ xs) (b ∷ ys) (suc k) y all at = zip_right xs ys k y all.1 at

  pub zip_left : (xs : List X) (ys : List Y) (k : ℕ) (x : X) → AllZip R xs ys → slice_get xs k ≡ Some x → (y : Y) × (slice_get ys k ≡ Some y) × R x y
  zip_left [] [] k x all at = cc
  zip_left [] (b ∷ ys) k x all at = absurd all
  zip_left (a ∷ xs) [] k x all at = absurd all
  zip_left (a ∷ xs) (b ∷ ys) zero x all at = (b, refl, subst (λ z. R z b) (same_Some a x at) all.0)
  zip_left (a ∷ xs) (b ∷ ys) (suc k) x all at = zip_left xs ys k x all.1 at

  pub zip_length : (xs : List X) (ys : List Y) → AllZip R xs ys → length ys ≡ length xs
  zip_length [] [] all = refl
  zip_length [] (b ∷ ys) all = absurd all
  zip_length (a ∷ xs) [] all = absurd all
  zip_length (a ∷ xs) (b ∷ ys) all = ap suc (zip_length xs ys all.1)
