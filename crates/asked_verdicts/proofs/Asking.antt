-- The pairs in the order in which they are first asked, as one more is asked.
use Rattle.asked_verdicts.proofs.Common.{◌≡◌, inl, inr, ℕ, zero, suc, ◌<◌, ◌≤◌, List, [], ◌∷◌, ◌++◌, length, length-append, take, Some, refl, sym, ap, subst, ◌∙◌, arith, get_or, slice_get, Contains, same_Some, slice_get_within, get_or_from_slice_get, slice_get-get_or, Contains-append_left, Contains-push, Contains-push_cases, get-append_cases, contains_at, Pair, IsAskedBefore, AreFirstAsked}

take_front : (asked : List Pair) (x : Pair) (k : ℕ) → k ≤ length asked → take k (asked ++ x ∷ []) ≡ take k asked
take_front asked x zero within = refl
take_front [] x (suc k) within = absurd (omega arith)
take_front (a ∷ asked) x (suc k) within = ap (λ (l : List Pair). a ∷ l) (take_front asked x k (omega arith))

take_whole : (asked : List Pair) → take (length asked) asked ≡ asked
take_whole [] = refl
take_whole (a ∷ asked) = ap (λ (l : List Pair). a ∷ l) (take_whole asked)

-- what was asked before q is still so when one more is asked
still_before : (asked : List Pair) (x p q : Pair) → Contains asked p → IsAskedBefore asked p q → IsAskedBefore (asked ++ x ∷ []) p q
still_before asked x p q has before k at = elim (get-append_cases asked (x ∷ []) k q at) [
  | inl here ↦
      let within : k < length asked = slice_get_within asked k q here in
      subst (λ (l : List Pair). Contains l p) (sym (take_front asked x k (omega arith))) (before k here)
  | inr (j, place, there) ↦
      let only : j < 1 = slice_get_within (x ∷ []) j q there in
      let end : k ≡ length asked = omega arith in
      subst (λ (n : ℕ). Contains (take n (asked ++ x ∷ [])) p) (sym end)
      (subst (λ (l : List Pair). Contains l p) (sym (take_front asked x (length asked) (omega arith) ∙ take_whole asked)) has)
]

-- a pair that was asked before changes nothing
pub asked_again : (asked pairs : List Pair) (x : Pair) → AreFirstAsked asked pairs → Contains asked x → AreFirstAsked (asked ++ x ∷ []) pairs
asked_again asked pairs x first has = record {
  same = λ p. (
    λ h. Contains-append_left asked (x ∷ []) p ((first.same p).0 h),
    λ h. elim (Contains-push_cases asked x p h) [
      | inl old ↦ (first.same p).1 old
      | inr is ↦ (first.same p).1 (subst (Contains asked) is has)
    ],
  );
  once = first.once;
  in_order = λ i j d less within.
      let p = get_or pairs i d in
      let among : Contains pairs p = contains_at pairs i p (slice_get-get_or pairs i d (omega arith)) in
      still_before asked x p (get_or pairs j d) ((first.same p).0 among) (first.in_order i j d less within);
}

only_one : (x p : Pair) (j : ℕ) → slice_get (x ∷ []) j ≡ Some p → x ≡ p
only_one x p zero at = same_Some x p at
only_one x p (suc j) at = absurd cc

-- a pair that was not is appended
module _ (asked pairs : List Pair) (x : Pair) (first : AreFirstAsked asked pairs) (not_yet : ¬ Contains asked x) where
  asked_of : (i : ℕ) (p : Pair) → slice_get pairs i ≡ Some p → Contains asked p
  asked_of i p at = (first.same p).0 (contains_at pairs i p at)

  once_more : (i j : ℕ) (p : Pair) → slice_get (pairs ++ x ∷ []) i ≡ Some p → slice_get (pairs ++ x ∷ []) j ≡ Some p → i ≡ j
  once_more i j p at_i at_j = elim (get-append_cases pairs (x ∷ []) i p at_i) [
    | inl here ↦ elim (get-append_cases pairs (x ∷ []) j p at_j) [
      | inl there ↦ first.once i j p here there
      | inr (k, place, is) ↦ absurd (not_yet (subst (Contains asked) (sym (only_one x p k is)) (asked_of i p here)))
    ]
    | inr (k, place, is) ↦ elim (get-append_cases pairs (x ∷ []) j p at_j) [
      | inl there ↦ absurd (not_yet (subst (Contains asked) (sym (only_one x p k is)) (asked_of j p there)))
      | inr (l, place', is') ↦
          let a : k < 1 = slice_get_within (x ∷ []) k p is in
          let b : l < 1 = slice_get_within (x ∷ []) l p is' in
          omega (arith, place, place', a, b)
    ]
  ]

  before_of : (i j : ℕ) (p q : Pair) → i < j → slice_get pairs i ≡ Some p → slice_get pairs j ≡ Some q → IsAskedBefore asked p q
  before_of i j p q less at_i at_j =
      let within : j < length pairs = slice_get_within pairs j q at_j in
      let before = first.in_order i j p less within in
      subst (λ (l : Pair). IsAskedBefore asked l q) (get_or_from_slice_get pairs i p p at_i)
      (subst (λ (l : Pair). IsAskedBefore asked (get_or pairs i p) l) (get_or_from_slice_get pairs j q p at_j) before)

  in_order_more : (i j : ℕ) (p q : Pair) → i < j → slice_get (pairs ++ x ∷ []) i ≡ Some p → slice_get (pairs ++ x ∷ []) j ≡ Some q → IsAskedBefore (asked ++ x ∷ []) p q
  in_order_more i j p q less at_i at_j = elim (get-append_cases pairs (x ∷ []) i p at_i) [
    | inl here ↦ elim (get-append_cases pairs (x ∷ []) j q at_j) [
      | inl there ↦ still_before asked x p q (asked_of i p here) (before_of i j p q less here there)
      | inr (k, place, is) ↦ still_before asked x p q (asked_of i p here) (λ n at. absurd (not_yet (subst (Contains asked) (sym (only_one x q k is)) (contains_at asked n q at))))
    ]
    | inr (k, place, is) ↦ absurd (let within : j < length (pairs ++ x ∷ []) = slice_get_within (pairs ++ x ∷ []) j q at_j in omega (arith, place, within, less, length-append pairs (x ∷ [])))
  ]

  pub asked_first : AreFirstAsked (asked ++ x ∷ []) (pairs ++ x ∷ [])
  asked_first = record {
    same = λ p. (
      λ h. elim (Contains-push_cases pairs x p h) [
        | inl old ↦ Contains-append_left asked (x ∷ []) p ((first.same p).0 old)
        | inr is ↦ subst (Contains (asked ++ x ∷ [])) is (Contains-push asked x)
      ],
      λ h. elim (Contains-push_cases asked x p h) [
        | inl old ↦ Contains-append_left pairs (x ∷ []) p ((first.same p).1 old)
        | inr is ↦ subst (Contains (pairs ++ x ∷ [])) is (Contains-push pairs x)
      ],
    );
    once = once_more;
    in_order = λ i j d less within.
        in_order_more i j (get_or (pairs ++ x ∷ []) i d) (get_or (pairs ++ x ∷ []) j d) less
        (slice_get-get_or (pairs ++ x ∷ []) i d (omega arith)) (slice_get-get_or (pairs ++ x ∷ []) j d within);
  }
