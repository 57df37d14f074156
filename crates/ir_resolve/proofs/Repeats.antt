-- Items that have something that an earlier one has too.
use Rattle.ir_resolve.proofs.Common.{◌≡◌, ◌⊎◌, ◌↔◌, inl, inr, ℕ, ◌+◌, ◌<◌, List, [], ◌∷◌, ◌++◌, take, length, get_or, Option, Some, refl, ap, sym, subst, ◌∙◌, arith, slice_get, take_more, Contains-append_left, Contains-push, Contains-push_cases, slice_get_read, IsFirst, SomeHas, RepeatsHere}
use Rattle.ir_resolve.proofs.Firsts.{first_same}

module _ {X K : Type 0} (Has : X → K → Type 0) where
  some_push : (xs : List X) (x : X) (k : K) → SomeHas Has (xs ++ x ∷ []) k ↔ (SomeHas Has xs k ⊎ Has x k)
  some_push xs x k = (
    λ (y, in_all, has). elim (Contains-push_cases xs x y in_all) [ inl in_xs ↦ inl (y, in_xs, has) | inr e ↦ inr (subst (λ z. Has z k) (sym e) has) ],
    λ h. elim h [ inl (y, in_xs, has) ↦ (y, Contains-append_left xs (x ∷ []) y in_xs, has) | inr has ↦ (x, Contains-push xs x, has) ],
  )

  some_more : (xs : List X) (i : ℕ) (x : X) (k : K) → i < length xs → x ≡ get_or xs i x → SomeHas Has (take (i + 1) xs) k ↔ (SomeHas Has (take i xs) k ⊎ Has x k)
  some_more xs i x k lt at =
      let more : take (i + 1) xs ≡ take i xs ++ x ∷ [] = take_more xs i x lt ∙ ap (λ y. take i xs ++ y ∷ []) (sym at) in
      rw more (some_push (take i xs) x k)

  -- what the items up to one more have
  pub known_more : (Old New : K → Type 0) (xs : List X) (i : ℕ) (x : X) → i < length xs → x ≡ get_or xs i x
      → ((k : K) → Old k ↔ SomeHas Has (take i xs) k) → ((k : K) → New k ↔ (Old k ⊎ Has x k)) → (k : K) → New k ↔ SomeHas Has (take (i + 1) xs) k
  known_more Old New xs i x lt at old new k =
      let more = some_more xs i x k lt at in (
        λ h. more.1 (elim ((new k).0 h) [ inl o ↦ inl ((old k).0 o) | inr has ↦ inr has ]),
        λ h. (new k).1 (elim (more.0 h) [ inl some ↦ inl ((old k).1 some) | inr has ↦ inr has ]),
      )

  pub some_none : (k : K) → ¬ SomeHas Has [] k
  some_none k (x, (j, lt, is), has) = omega arith

  module _ (StandsOn : X → ℕ → Type 0) where
    -- the first line at index i, given what the items before have
    pub first_repeat : (Known : K → Type 0) (xs : List X) (i : ℕ) (x : X) (here : Option ℕ) → i < length xs → x ≡ get_or xs i x → ((k : K) → Known k ↔ SomeHas Has (take i xs) k)
        → IsFirst (λ line. (k : K) × Has x k × Known k × StandsOn x line) here → IsFirst (RepeatsHere Has StandsOn xs i) here
    first_repeat Known xs i x here lt at knows first =
        let is : slice_get xs i ≡ Some x = slice_get_read xs (length xs) i x refl lt at in
        first_same (λ line. (k : K) × Has x k × Known k × StandsOn x line) (RepeatsHere Has StandsOn xs i)
        (λ line (k, has, known, on). (x, k, is, has, (knows k).0 known, on))
        (λ line (y, k, is', has, before, on).
        let e : y ≡ x = cc in
        (k, subst (λ z. Has z k) e has, (knows k).1 before, subst (λ z. StandsOn z line) e on))
        here first
