-- Sets of widths while a loop fills them.
use Rattle.rule_typing.proofs.Common.{◌≡◌, ◌↔◌, ◌⊎◌, inl, inr, ℕ, ◌+◌, ◌<◌, List, [], ◌∷◌, ◌++◌, length, take, get_or, replicate, true, false, Some, sym, subst, ap, ◌∙◌, arith, slice_get, Contains, false≢true, cases_eq, get_or-replicate, take_more, length-replicate, Contains-push, Contains-push_cases, Contains-append_left, slice_get_within, get_or_from_slice_get, same_Some, Widths, Has, HasExactly}
use Rattle.rule_typing.proofs.Images.{get-append_cases}

-- nothing is true in a list of `false`
pub none_true : (n N : ℕ) → ¬ (slice_get (replicate n false) N ≡ Some true)
none_true n N at =
    let within : N < length (replicate n false) = slice_get_within (replicate n false) N true at in
    false≢true (sym (get_or-replicate n N false true (omega (arith, length-replicate n false))) ∙ get_or_from_slice_get (replicate n false) N true true at)

-- a set that holds the candidates that passed, of those seen so far, does so after one more candidate
module _ (Among More Passes : ℕ → Type 0) (w : ℕ) (old : Widths) (more : (N : ℕ) → More N ↔ (Among N ⊎ (N ≡ w))) (so_far : HasExactly old (λ N. Among N × Passes N)) where
  pub added : (new : Widths) → HasExactly new (λ N. Has old N ⊎ (N ≡ w)) → Passes w → HasExactly new (λ N. More N × Passes N)
  added new inserted passes N = (
    λ has. elim ((inserted N).0 has) [
      | inl before ↦ let h = (so_far N).0 before in ((more N).1 (inl h.0), h.1)
      | inr here ↦ ((more N).1 (inr here), subst Passes (sym here) passes)
    ],
    λ (among, passes'). (inserted N).1 (elim ((more N).0 among) [
      | inl before ↦ inl ((so_far N).1 (before, passes'))
      | inr here ↦ inr here
    ]),
  )

  pub left_out : ¬ Passes w → HasExactly old (λ N. More N × Passes N)
  left_out fails N = (
    λ has. let h = (so_far N).0 has in ((more N).1 (inl h.0), h.1),
    λ (among, passes). elim ((more N).0 among) [
      | inl before ↦ (so_far N).1 (before, passes)
      | inr here ↦ absurd (fails (subst Passes here passes))
    ],
  )

-- the candidates: the numbers below a bound, and the widths of a list
pub one_below : (w N : ℕ) → (N < w + 1) ↔ ((N < w) ⊎ (N ≡ w))
one_below w N = (λ less. elim (cases_eq N w) [ inl same ↦ inr same | inr other ↦ inl (omega arith) ], λ one. elim one [ inl less ↦ omega arith | inr same ↦ omega arith ])

pub one_taken : (widths : List ℕ) (i w : ℕ) → i < length widths → w ≡ get_or widths i w → (N : ℕ) → Contains (take (i + 1) widths) N ↔ (Contains (take i widths) N ⊎ (N ≡ w))
one_taken widths i w within is N =
    let more : take (i + 1) widths ≡ take i widths ++ w ∷ [] = take_more widths i w within ∙ ap (λ x. take i widths ++ x ∷ []) (sym is) in (
      λ among. elim (Contains-push_cases (take i widths) w N (subst (λ l. Contains l N) more among)) [ inl before ↦ inl before | inr here ↦ inr (sym here) ],
      λ one. subst (λ l. Contains l N) (sym more) (elim one [
        | inl before ↦ Contains-append_left (take i widths) (w ∷ []) N before
        | inr here ↦ subst (Contains (take i widths ++ w ∷ [])) (sym here) (Contains-push (take i widths) w)
      ]),
    )

-- what holds of the set of each of the first classes holds so of one more
pub each_push : (P : ℕ → Widths → Type 0) (sets : List Widths) (n : ℕ) (last : Widths) → length sets ≡ n → P n last → ((c : ℕ) (set : Widths) → slice_get sets c ≡ Some set → P c set)
    → (c : ℕ) (set : Widths) → slice_get (sets ++ last ∷ []) c ≡ Some set → P c set
each_push P sets n last count here before c set at = elim (get-append_cases sets (last ∷ []) c set at) [
  | inl earlier ↦ before c set earlier
  | inr (j, place, there) ↦
      let first : j < 1 = slice_get_within (last ∷ []) j set there in
      let same : n ≡ c = omega arith in
      let is : last ≡ set = let none : j ≡ 0 = omega arith in same_Some last set (subst (λ i. slice_get (last ∷ []) i ≡ Some set) none there) in
      subst (λ k. P k set) same (subst (P n) is here)
]
