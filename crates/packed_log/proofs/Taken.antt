-- Hints that are read off the bytes, difference by difference.
use Rattle.packed_log.proofs.Common.{◌≡◌, ℕ, zero, suc, ◌+◌, ◌^◌, ◌<◌, ◌≤◌, List, [], ◌∷◌, ◌++◌, All, refl, sym, ap, subst, ◌∙◌, arith, add-one, All-head, All-tail, first_number, behind_number, numbers, behind, first_list, behind_list, moved, numbers_from, first_hints, HintsFit}
use Rattle.packed_log.proofs.Lists.{numbers_more, behind_more, of_each}
use Rattle.packed_log.proofs.Differences.{last_of, last_of_more, numbers_from_more}

-- the first numbers of the list were read, `place` of them, and the rest are the bytes behind them
pub record ListTaken (place : ℕ) (bytes rest ns : List ℕ) : Type 0 where
  pub are : ns ≡ numbers place (behind_number bytes)
  pub rest_is : rest ≡ behind place (behind_number bytes)

pub none_taken : (bytes rest : List ℕ) → rest ≡ behind_number bytes → ListTaken 0 bytes rest []
none_taken bytes rest is = record { are = refl; rest_is = is }

pub one_more_taken : (place n : ℕ) (bytes rest newer ns : List ℕ) → n ≡ first_number rest → newer ≡ behind_number rest → ListTaken place bytes rest ns → ListTaken (place + 1) bytes newer (ns ++ n ∷ [])
one_more_taken place n bytes rest newer ns is behind_is h =
    subst (λ (k : ℕ). ListTaken k bytes newer (ns ++ n ∷ [])) (sym (add-one place))
    (record {
      are = ap (λ (s : List ℕ). s ++ n ∷ []) h.are ∙ ap (λ (m : ℕ). numbers place (behind_number bytes) ++ m ∷ []) (is ∙ ap first_number h.rest_is) ∙ sym (numbers_more place (behind_number bytes));
      rest_is = behind_is ∙ ap behind_number h.rest_is ∙ sym (behind_more place (behind_number bytes));
    })

pub all_taken : (count place : ℕ) (bytes rest ns : List ℕ) → count ≡ first_number bytes → count ≤ place → place ≤ count → ListTaken place bytes rest ns → (ns ≡ first_list bytes) × (rest ≡ behind_list bytes)
all_taken count place bytes rest ns is all within h =
    let same : place ≡ first_number bytes = omega (arith, is, all, within) in
    (h.are ∙ ap (λ (k : ℕ). numbers k (behind_number bytes)) same, h.rest_is ∙ ap (λ (k : ℕ). behind k (behind_number bytes)) same)

-- the first hints were read, `place` of them; `before` is the last one, 0 where there is none
pub record HintsTaken (place before : ℕ) (bytes rest hints : List ℕ) : Type 0 where
  pub ns : List ℕ
  pub taken : ListTaken place bytes rest ns
  pub are : hints ≡ numbers_from 0 ns
  pub last : before ≡ last_of 0 hints

pub no_hint_taken : (bytes rest hints : List ℕ) → hints ≡ [] → rest ≡ behind_number bytes → HintsTaken 0 0 bytes rest hints
no_hint_taken bytes rest hints empty is = record { ns = []; taken = none_taken bytes rest is; are = empty; last = ap (last_of 0) (sym empty) }

pub hint_taken : (place before difference hint : ℕ) (bytes rest newer hints longer : List ℕ) → difference ≡ first_number rest → newer ≡ behind_number rest → hint ≡ moved before difference → longer ≡ hints ++ hint ∷ [] → HintsTaken place before bytes rest hints → HintsTaken (place + 1) hint bytes newer longer
hint_taken place before difference hint bytes rest newer hints longer is behind_is moved_is more h = record {
  ns = h.ns ++ difference ∷ [];
  taken = one_more_taken place difference bytes rest newer h.ns is behind_is h.taken;
  are = more ∙ ap (λ (m : ℕ). hints ++ m ∷ []) (moved_is ∙ ap (λ (k : ℕ). moved k difference) h.last)
      ∙ ap (λ (s : List ℕ). s ++ moved (last_of 0 s) difference ∷ []) h.are ∙ sym (numbers_from_more 0 difference h.ns);
  last = sym (ap (last_of 0) more ∙ last_of_more 0 hint hints);
}

pub difference_fits : (count place before : ℕ) (bytes rest hints : List ℕ) → HintsFit bytes → count ≡ first_number bytes → place < count → HintsTaken place before bytes rest hints → first_number rest < 2 ^ 64
difference_fits count place before bytes rest hints fit is within h =
    subst (λ (s : List ℕ). first_number s < 2 ^ 64) (sym h.taken.rest_is)
    (of_each (λ n. n < 2 ^ 64) (first_number bytes) place (behind_number bytes) (omega (arith, is, within)) fit.differences)

-- what is true of each hint is true of the one that is read next
next_of_each : (P : ℕ → Type 0) (before count place : ℕ) (bytes : List ℕ) → place < count → All P (numbers_from before (numbers count bytes)) → P (moved (last_of before (numbers_from before (numbers place bytes))) (first_number (behind place bytes)))
next_of_each P before zero place bytes within all = absurd (omega (arith, within))
next_of_each P before (suc count) zero bytes within all = All-head P _ _ all
next_of_each P before (suc count) (suc place) bytes within all =
    next_of_each P (moved before (first_number bytes)) count place (behind_number bytes) (omega (arith, within)) (All-tail P _ _ all)

pub hint_fits : (count place before difference : ℕ) (bytes rest hints : List ℕ) → HintsFit bytes → count ≡ first_number bytes → place < count → difference ≡ first_number rest → HintsTaken place before bytes rest hints → moved before difference < 2 ^ 32
hint_fits count place before difference bytes rest hints fit is within read h =
    let before_is : before ≡ last_of 0 (numbers_from 0 (numbers place (behind_number bytes))) = h.last ∙ ap (last_of 0) (h.are ∙ ap (numbers_from 0) h.taken.are) in
    let read_is : difference ≡ first_number (behind place (behind_number bytes)) = read ∙ ap first_number h.taken.rest_is in
    subst (λ (k : ℕ). k < 2 ^ 32) (sym (ap (λ (k : ℕ). moved k difference) before_is ∙ ap (moved _) read_is))
    (next_of_each (λ k. k < 2 ^ 32) 0 (first_number bytes) place (behind_number bytes) (omega (arith, is, within)) fit.hints)

pub hints_taken : (count place before : ℕ) (bytes rest hints : List ℕ) → count ≡ first_number bytes → count ≤ place → place ≤ count → HintsTaken place before bytes rest hints → (hints ≡ first_hints bytes) × (rest ≡ behind_list bytes)
hints_taken count place before bytes rest hints is all within h =
    let t = all_taken count place bytes rest h.ns is all within h.taken in (h.are ∙ ap (numbers_from 0) t.0, t.1)
