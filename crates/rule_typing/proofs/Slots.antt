-- Sets and widths in arrays of fixed length, of which the first places are filled.
use Rattle.rule_typing.proofs.Common.{◌≡◌, ◌≢◌, ◌↔◌, ◌⊎◌, Bool, true, false, IsTrue, inl, inr, ℕ, ◌+◌, ◌<◌, ◌≤◌, List, [], length, take, get_or, slice_set, Some, refl, sym, subst, ap, ◌∙◌, arith, length-take, get_or-take, get_or-set_other, get_or-set_same, slice_get, slice_index, OnTrue, OnFalse, cases_eq, false≢true, length-set, slice_get-get_or, slice_get_within, get_or_from_slice_get, Rule, IsTyping, Widths, IsClassified, HasClasses, MayHaveWidth, Has, HasExactly, IsLeast, GoesOn, AreOf, SolvesFrom, AreLeast}
use Rattle.rule_typing.proofs.Begun.{AreFirst, AreFirstOf, first_of, none_behind}
use Rattle.rule_typing.proofs.Found.{behind_nothing}
use Rattle.rule_typing.proofs.Solved.{typing_of, solves_of, typing_may}

-- what the array holds after one place is written
written : (sets : List Widths) (i c : ℕ) (new set : Widths) → i < length sets → slice_get (slice_set sets i new) c ≡ Some set → ((c ≡ i) × (new ≡ set)) ⊎ ((c ≢ i) × (slice_get sets c ≡ Some set))
written sets i c new set within at = elim (cases_eq c i) [
  | inl same ↦ inl (same, sym (ap (λ k. get_or (slice_set sets i new) k set) same ∙ get_or-set_same sets i new set within) ∙ get_or_from_slice_get (slice_set sets i new) c set set at)
  | inr other ↦
      let inside : c < length (slice_set sets i new) = slice_get_within (slice_set sets i new) c set at in
      let is : get_or sets c set ≡ set = sym (get_or-set_other sets i c new set other) ∙ get_or_from_slice_get (slice_set sets i new) c set set at in
      inr (other, slice_get-get_or sets c set (omega (arith, length-set sets i new)) ∙ ap (λ s. Some s) is)
]

pub exact_more : (P : ℕ → Widths → Type 0) (sets : List Widths) (i : ℕ) (new : Widths) → i < length sets → P i new → ((c : ℕ) (set : Widths) → c < i → slice_get sets c ≡ Some set → P c set)
    → (c : ℕ) (set : Widths) → c < i + 1 → slice_get (slice_set sets i new) c ≡ Some set → P c set
exact_more P sets i new within here before c set less at = elim (written sets i c new set within at) [
  | inl (same, is) ↦ subst (λ k. P k set) (sym same) (subst (P i) is here)
  | inr (other, at') ↦ before c set (omega arith) at'
]

-- without a beginning and a bound, the least width that may stand anywhere is the set's least
least_of_all : (set : Widths) (c w : ℕ) → IsLeast (λ N. Has set N × (0 < N)) (Some w) → IsLeast (λ N. Has set N × GoesOn [] 0 c N) (Some w)
least_of_all set c w ((has, above), least) = ((has, (λ less. absurd (omega arith), λ same. above)), λ M (has', goes). least M (has', has'.0))

pub least_more : (sets : List Widths) (widths : List ℕ) (i w : ℕ) (new : Widths) → i < length sets → i < length widths → IsLeast (λ N. Has new N × (0 < N)) (Some w) → AreFirstOf sets [] 0 i widths
    → AreFirstOf (slice_set sets i new) [] 0 (i + 1) (slice_set widths i w)
least_more sets widths i w new within place here before c set less at = elim (written sets i c new set within at) [
  | inl (same, is) ↦ rw (same, get_or-set_same widths i w 0 place) (subst (λ s. IsLeast (λ N. Has s N × GoesOn [] 0 i N) (Some w)) is (least_of_all new i w here))
  | inr (other, at') ↦ rw (get_or-set_other widths i c w 0 other) (before c set (omega arith) at')
]

-- an element of the filled part is one of the array
in_first : (sets : List Widths) (n c : ℕ) (set : Widths) → slice_get (take n sets) c ≡ Some set → (c < n) × (slice_get sets c ≡ Some set)
in_first sets n c set at =
    let inside : c < length (take n sets) = slice_get_within (take n sets) c set at in
    let less : c < n = omega (arith, length-take n sets) in
    let is : get_or sets c set ≡ set = sym (get_or-take n sets c set less) ∙ get_or_from_slice_get (take n sets) c set set at in
    (less, slice_get-get_or sets c set (omega (arith, length-take n sets)) ∙ ap (λ s. Some s) is)

module _ (rule : Rule) (n i : ℕ) (sets : List Widths) (widths : List ℕ) (classified : IsClassified rule) (counted : HasClasses rule n) (few : n ≤ length sets) (few_widths : n ≤ length widths) (past : n ≤ i)
    (exact : (c : ℕ) (set : Widths) → c < i → slice_get sets c ≡ Some set → HasExactly set (MayHaveWidth rule c)) (least : AreFirstOf sets [] 0 i widths) where
  sets_count : length (take n sets) ≡ n
  sets_count = omega (arith, length-take n sets)

  same_count : length (take n widths) ≡ length (take n sets)
  same_count = omega (arith, length-take n sets, length-take n widths)

  firsts : AreFirst (take n sets) [] 0 (take n widths)
  firsts c set at = let (less, at') = in_first sets n c set at in rw (get_or-take n widths c 0 less) (least c set (omega arith) at')

  counted_first : HasClasses rule (length (take n sets))
  counted_first = subst (HasClasses rule) (sym sets_count) counted

  exact_first : (c : ℕ) (set : Widths) → slice_get (take n sets) c ≡ Some set → HasExactly set (MayHaveWidth rule c)
  exact_first c set at = let (less, at') = in_first sets n c set at in exact c set (omega arith) at'

  pub slots_of : AreOf (take n sets) (take n widths)
  slots_of = first_of rule (take n sets) [] 0 (take n widths) same_count firsts

  slots_typing : (settled : List ℕ) → AreLeast (SolvesFrom rule (take n sets) 0 (take n widths)) settled → IsTyping rule settled
  slots_typing settled found = typing_of rule (take n sets) (MayHaveWidth rule) classified counted_first (λ c N may. may) exact_first settled found.holds.solves

  no_slots : ((others : List ℕ) → ¬ SolvesFrom rule (take n sets) 0 (take n widths) others) → (typing : List ℕ) → ¬ IsTyping rule typing
  no_slots none typing is =
      none_behind rule (take n sets) [] 0 (take n widths) same_count firsts none typing
      (behind_nothing rule (take n sets) typing (solves_of rule (take n sets) (MayHaveWidth rule) classified counted_first (λ c N may. may) exact_first typing is (typing_may rule (length (take n sets)) typing counted_first is)))

  pub answered : (answer : Bool) (settled : List ℕ) → OnTrue answer (AreLeast (SolvesFrom rule (take n sets) 0 (take n widths)) settled) → OnFalse answer ((others : List ℕ) → ¬ SolvesFrom rule (take n sets) 0 (take n widths) others)
      → IsTrue answer ↔ ((typing : List ℕ) × IsTyping rule typing)
  answered true settled found none = (λ h. (settled, slots_typing settled found), λ h. refl)
  answered false settled found none = (λ h. absurd (false≢true h), λ (typing, is). absurd (no_slots none typing is))

-- where a class has no width at all, there is no typing
pub no_width : (rule : Rule) (n c : ℕ) (set : Widths) → HasClasses rule n → c < n → HasExactly set (MayHaveWidth rule c) → ((N : ℕ) → ¬ (Has set N × (0 < N))) → (typing : List ℕ) → ¬ IsTyping rule typing
no_width rule n c set counted less exact none typing is =
    let has : Has set (slice_index typing c) = (exact (slice_index typing c)).1 (typing_may rule n typing counted is c less) in
    none (slice_index typing c) (has, has.0)
