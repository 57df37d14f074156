-- Occurrence lists, as they are filled clause by clause.
use Rattle.depth_first.proofs.Common.{◌≡◌, ℕ, suc, ◌+◌, true, List, [], ◌∷◌, ◌++◌, Some, length, take, sym, ap, ◌∙◌, arith, inl, inr, subst, slice_get, ◌⊎◌, cases_Bool, Lit, is_same, is_held, is_same-true, Occurrences, StandsFrom, numbers_of, AddsNumber, AddsClause}
use Rattle.depth_first.proofs.Lists.{slice_get_left, slice_get_last, slice_get_push_cases, take_next}
use Rattle.depth_first.proofs.HeldLists.{held_cases, held_one_same}

-- the list of a literal to which a number was added
grown : (old new : Occurrences) (l : Lit) (number : ℕ) → AddsNumber old new l number → (m : Lit) → is_same m l ≡ true → numbers_of new m ≡ numbers_of old m ++ number ∷ []
grown old new l number adds m same =
    subst (λ k. numbers_of new k ≡ numbers_of old k ++ number ∷ []) (sym (is_same-true m l same)) adds.here

kept_one : (old new : Occurrences) (l : Lit) (number : ℕ) → AddsNumber old new l number → (m : Lit) (place n : ℕ) → slice_get (numbers_of old m) place ≡ Some n → slice_get (numbers_of new m) place ≡ Some n
kept_one old new l number adds m place n at =
    elim (cases_Bool (is_same m l)) [
      | inl same ↦
          ap (λ ns. slice_get ns place) (grown old new l number adds m same)
          ∙ slice_get_left (numbers_of old m) (number ∷ []) place n at
      | inr differ ↦ ap (λ ns. slice_get ns place) (adds.others m differ) ∙ at
    ]

only_one : (old new : Occurrences) (l : Lit) (number : ℕ) → AddsNumber old new l number → (m : Lit) (place n : ℕ) → slice_get (numbers_of new m) place ≡ Some n → (slice_get (numbers_of old m) place ≡ Some n) ⊎ (n ≡ number)
only_one old new l number adds m place n at =
    elim (cases_Bool (is_same m l)) [
      | inl same ↦
          elim (slice_get_push_cases (numbers_of old m) number place n (sym (ap (λ ns. slice_get ns place) (grown old new l number adds m same)) ∙ at)) [
            | inl before ↦ inl before
            | inr here ↦ inr (sym here.1)
          ]
      | inr differ ↦ inl (sym (ap (λ ns. slice_get ns place) (adds.others m differ)) ∙ at)
    ]

stands_here : (old new : Occurrences) (l : Lit) (number : ℕ) → AddsNumber old new l number → StandsFrom (numbers_of new l) 0 number
stands_here old new l number adds = (
  length (numbers_of old l),
  omega arith,
  ap (λ ns. slice_get ns (length (numbers_of old l))) adds.here ∙ slice_get_last (numbers_of old l) number,
)

-- the number of the clause is added for one more of its literals
pub AddsClause-next : (old mid new : Occurrences) (clause : List Lit) (k number : ℕ) (l : Lit) → slice_get clause k ≡ Some l → AddsClause old mid (take k clause) number → AddsNumber mid new l number → AddsClause old new (take (k + 1) clause) number
AddsClause-next old mid new clause k number l at so_far adds =
    let next : take (k + 1) clause ≡ take k clause ++ l ∷ [] =
    let e : k + 1 ≡ suc k = omega arith in ap (λ n. take n clause) e ∙ take_next clause k l at in
    record {
      kept = λ m place n before. kept_one mid new l number adds m place n (so_far.kept m place n before);
      added = λ m h.
          elim (held_cases (take k clause) (l ∷ []) m (sym (ap (λ c. is_held c m) next) ∙ h)) [
            | inl before ↦
                let s = so_far.added m before in
                (s.0, s.1, kept_one mid new l number adds m s.0 number s.2)
            | inr here ↦
                subst (λ k. StandsFrom (numbers_of new k) 0 number) (sym (held_one_same l m here)) (stands_here mid new l number adds)
          ];
      only = λ m place n after.
          elim (only_one mid new l number adds m place n after) [
            | inl before ↦ so_far.only m place n before
            | inr is ↦ inr is
          ];
    }
