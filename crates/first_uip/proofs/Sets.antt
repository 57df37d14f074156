-- Elements of a list of which one is replaced, or dropped by moving the last to its place (swap_remove).
use Rattle.first_uip.proofs.Common.{◌≡◌, ℕ, ◌+◌, ◌-◌, ◌<◌, ◌≤◌, List, Some, length, set, get_or, sym, ap, ◌∙◌, arith, inl, inr, length-set, slice_get, ◌⊎◌, swap_remove, cases_order, get_or-set_same, get_or-set_other, length-take-le, slice_get-get_or, slice_get_past, get_or_from_slice_get, slice_get_below, slice_get_take, slice_get_in_take, some_same}

pub slice_get-set_same : {X : Type 0} (xs : List X) (i : ℕ) (a : X) → i < length xs → slice_get (set xs i a) i ≡ Some a
slice_get-set_same xs i a within =
    slice_get-get_or (set xs i a) i a (omega (arith, within, length-set xs i a))
    ∙ ap Some (get_or-set_same xs i a a within)

pub slice_get-set_other : {X : Type 0} (xs : List X) (i j : ℕ) (a : X) → (j ≡ i → ⊥) → slice_get (set xs i a) j ≡ slice_get xs j
slice_get-set_other xs i j a differ =
    elim (cases_order j (length xs)) [
      | inl same ↦ slice_get_past (set xs i a) j (omega (arith, same, length-set xs i a)) ∙ sym (slice_get_past xs j (omega (arith, same)))
      | inr (inl less) ↦
          slice_get-get_or (set xs i a) j a (omega (arith, less, length-set xs i a))
          ∙ ap Some (get_or-set_other xs i j a a differ)
          ∙ sym (slice_get-get_or xs j a less)
      | inr (inr more) ↦ slice_get_past (set xs i a) j (omega (arith, more, length-set xs i a)) ∙ sym (slice_get_past xs j (omega (arith, more)))
    ]

-- an element of a list of which one was replaced is the new one, or stood at that place before
pub slice_get-set_cases : {X : Type 0} (xs : List X) (i j : ℕ) (a x : X) → i < length xs → slice_get (set xs i a) j ≡ Some x → ((j ≡ i) × (a ≡ x)) ⊎ ((j ≡ i → ⊥) × (slice_get xs j ≡ Some x))
slice_get-set_cases xs i j a x within at =
    elim (cases_order j i) [
      | inl same ↦ inl (same, some_same a x (sym (slice_get-set_same xs i a within) ∙ sym (ap (slice_get (set xs i a)) same) ∙ at))
      | inr (inl less) ↦ let differ : j ≡ i → ⊥ = λ e. omega (arith, e, less) in inr (differ, sym (slice_get-set_other xs i j a differ) ∙ at)
      | inr (inr more) ↦ let differ : j ≡ i → ⊥ = λ e. omega (arith, e, more) in inr (differ, sym (slice_get-set_other xs i j a differ) ∙ at)
    ]

module _ (xs : List ℕ) (place : ℕ) (within : place < length xs) where
  -- The elements that aren't dropped are still in the list, those behind the dropped one's place not before it.
  pub kept_by_drop : (k n : ℕ) → (k ≡ place → ⊥) → slice_get xs k ≡ Some n → (j : ℕ) × (place ≤ k → place ≤ j) × (slice_get (swap_remove xs place 0) j ≡ Some n)
  kept_by_drop k n differ at =
      let x = get_or xs (length xs - 1) 0 in
      let below : k < length xs = slice_get_below xs k n at in
      elim (cases_order k (length xs - 1)) [
        | inl same ↦
            let is : x ≡ n = sym (ap (λ i. get_or xs i 0) same) ∙ get_or_from_slice_get xs k n 0 at in (
              place,
              λ h. omega arith,
              slice_get_in_take (length xs - 1) (set xs place x) place n
                  (slice_get-set_same xs place x within ∙ ap Some is) (omega (arith, differ, same)),
            )
        | inr (inl less) ↦ (
          k,
          λ h. h,
          slice_get_in_take (length xs - 1) (set xs place x) k n (slice_get-set_other xs place k x differ ∙ at) less,
        )
        | inr (inr more) ↦ absurd (omega arith)
      ]

  -- each element that is left stood in the list before
  pub only_by_drop : (j n : ℕ) → slice_get (swap_remove xs place 0) j ≡ Some n → (k : ℕ) × (slice_get xs k ≡ Some n)
  only_by_drop j n at =
      let x = get_or xs (length xs - 1) 0 in
      let there = slice_get_take (length xs - 1) (set xs place x) j n at in
      elim (slice_get-set_cases xs place j x n within there.0) [
        | inl here ↦ (length xs - 1, slice_get-get_or xs (length xs - 1) 0 (omega arith) ∙ ap Some here.1)
        | inr other ↦ (j, other.1)
      ]

  pub length_by_drop : length (swap_remove xs place 0) + 1 ≡ length xs
  length_by_drop =
      let x = get_or xs (length xs - 1) 0 in
      omega (arith, within, length-set xs place x, length-take-le (length xs - 1) (set xs place x) (omega (arith, length-set xs place x)))
