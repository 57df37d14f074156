-- Hints that are added to bytes, difference by difference.
use Rattle.packed_log.proofs.Common.{◌≡◌, ℕ, ◌+◌, ◌^◌, ◌<◌, ◌≤◌, List, [], ◌∷◌, ◌++◌, take, get_or, length, All, refl, sym, ap, subst, ◌∙◌, arith, take_all, take_more, All-nil, All-push, moved, numbers_from, Adds, AreHints}
use Rattle.packed_log.proofs.Lists.{ListSoFar, list_done}

-- the last of the numbers, or the number before them where there are none
abbrev pub last_of : ℕ → List ℕ → ℕ
last_of before [] = before
last_of before (n ∷ ns) = last_of n ns

pub last_of_more : (before n : ℕ) (ns : List ℕ) → last_of before (ns ++ n ∷ []) ≡ n
last_of_more before n [] = refl
last_of_more before n (m ∷ ns) = last_of_more m n ns

pub numbers_from_more : (before d : ℕ) (ds : List ℕ) → numbers_from before (ds ++ d ∷ []) ≡ numbers_from before ds ++ moved (last_of before (numbers_from before ds)) d ∷ []
numbers_from_more before d [] = refl
numbers_from_more before d (e ∷ ds) = ap (λ (s : List ℕ). moved before e ∷ s) (numbers_from_more (moved before e) d ds)

-- The numbers are the differences of these hints, of which `before` is the last, 0 where there is none; all fit.
pub record AreDifferences (hints : List ℕ) (before : ℕ) (ns : List ℕ) : Type 0 where
  pub are : numbers_from 0 ns ≡ hints
  pub last : last_of 0 hints ≡ before
  pub fit : All (λ n. n < 2 ^ 64) ns
  pub hints_fit : All (λ h. h < 2 ^ 32) hints

pub no_differences : AreDifferences [] 0 []
no_differences = record { are = refl; last = refl; fit = All-nil _; hints_fit = All-nil _ }

pub one_more_difference : (hints : List ℕ) (place before n : ℕ) (ns : List ℕ) → place < length hints → moved before n ≡ get_or hints place 0 → n < 2 ^ 64 → get_or hints place 0 < 2 ^ 32 → AreDifferences (take place hints) before ns → AreDifferences (take (place + 1) hints) (get_or hints place 0) (ns ++ n ∷ [])
one_more_difference hints place before n ns within is fits hint_fits h =
    let hint = get_or hints place 0 in
    let next : take (place + 1) hints ≡ take place hints ++ get_or hints place 0 ∷ [] = take_more hints place 0 within in
    record {
      are = numbers_from_more 0 n ns ∙ ap (λ (s : List ℕ). s ++ moved (last_of 0 s) n ∷ []) h.are ∙ ap (λ (m : ℕ). take place hints ++ moved m n ∷ []) h.last
          ∙ ap (λ (m : ℕ). take place hints ++ m ∷ []) is ∙ sym next;
      last = ap (last_of 0) next ∙ last_of_more 0 hint (take place hints);
      fit = All-push (λ m. m < 2 ^ 64) ns n h.fit fits;
      hints_fit = subst (All (λ k. k < 2 ^ 32)) (sym next) (All-push (λ k. k < 2 ^ 32) (take place hints) hint h.hints_fit hint_fits);
    }

pub hints_done : (hints : List ℕ) (place before : ℕ) (old new : List ℕ) → length hints < 2 ^ 64 → length hints ≤ place → place ≤ length hints → ListSoFar (length hints) place (AreDifferences (take place hints) before) old new → Adds (AreHints hints) old new
hints_done hints place before old new few all within h =
    let is : place ≡ length hints = omega (arith, all, within) in
    let whole = subst (λ (s : List ℕ). ListSoFar (length hints) place (AreDifferences s before) old new) (take_all place hints all) h in
    let l = list_done (length hints) (AreDifferences hints before) old new few (subst (λ (k : ℕ). ListSoFar (length hints) k (AreDifferences hints before) old new) is whole) in (
      l.adds.0,
      l.adds.1,
      record {
        first = λ rest. ap (numbers_from 0) (l.adds.2.first rest) ∙ l.right.are;
        behind = l.adds.2.behind_is;
        fit = λ rest. record {
          few = l.adds.2.few rest;
          differences = subst (All (λ n. n < 2 ^ 64)) (sym (l.adds.2.first rest)) l.right.fit;
          hints = subst (All (λ k. k < 2 ^ 32)) (sym (ap (numbers_from 0) (l.adds.2.first rest) ∙ l.right.are)) l.right.hints_fit;
        };
      },
    )
