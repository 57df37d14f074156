-- How often a place is in a heap.
use Rattle.places.proofs.Common.{◌≡◌, ℕ, zero, suc, ◌<◌, Bool, true, cond, eqb, ◌&&◌, ◌⊎◌, inl, inr, List, [], ◌∷◌, get_or, Some, sym, ap, subst, ◌∙◌, arith, All, Contains, slice_get, IsPermutation, cases_eq, cases_Bool, cond-true, cond-false, eq-eqb, ne_eqb, and_from, and_left, and_right, true≢false, same_Some, All-contains, sum_by-cons, sum_by_pushed, sum_by_popped, Contains-permutation, IsPermutation-sym, Place, ComesBefore, tally, AreMarked, IsFirst, Rows, Has, IsPlace, IsAdded, IsRemoved, IsSameSet}
use Rattle.places.proofs.Members.{contains_first, contains_later, contains_tail, contains_none}

abbrev pub counts : ℕ → ℕ → Place → ℕ
counts b n p = cond (eqb p.block b && eqb p.number n) 1 0

pub cases_place : (p : Place) (b n : ℕ) → IsPlace p b n ⊎ (¬ IsPlace p b n)
cases_place p b n =
    elim (cases_eq p.block b) [
      | inl block ↦ elim (cases_eq p.number n) [
        | inl number ↦ inl (block, number)
        | inr other ↦ inr (λ is. other is.1)
      ]
      | inr other ↦ inr (λ is. other is.0)
    ]

pub counts-is : (p : Place) (b n : ℕ) → IsPlace p b n → counts b n p ≡ 1
counts-is p b n is = cond-true (eqb p.block b && eqb p.number n) 1 0 (and_from (eqb p.block b) (eqb p.number n) (eq-eqb p.block b is.0) (eq-eqb p.number n is.1))

pub counts-other : (p : Place) (b n : ℕ) → ¬ IsPlace p b n → counts b n p ≡ 0
counts-other p b n other = cond-false (eqb p.block b && eqb p.number n) 1 0 (elim (cases_eq p.block b) [
  | inl block ↦ and_right (eqb p.block b) (eqb p.number n) (ne_eqb p.number n (λ number. other (block, number)))
  | inr ne ↦ and_left (eqb p.block b) (eqb p.number n) (ne_eqb p.block b ne)
])

pub cases_has : (rows : Rows) (b n : ℕ) → Has rows b n ⊎ (¬ Has rows b n)
cases_has rows b n = marked (get_or rows b []) n
  where
    marked : (row : List Bool) (n : ℕ) → (slice_get row n ≡ Some true) ⊎ (¬ (slice_get row n ≡ Some true))
    marked [] n = inr (λ e. absurd cc)
    marked (mark ∷ row) zero = elim (cases_Bool mark) [ inl e ↦ inl (ap Some e) | inr e ↦ inr (λ h. true≢false (sym (same_Some mark true h) ∙ e)) ]
    marked (mark ∷ row) (suc n) = marked row n

pub tally-contains : (places : List Place) (b n : ℕ) → 0 < tally places b n → Contains places (record { block = b; number = n })
tally-contains [] b n lt = absurd (omega arith)
tally-contains (p ∷ places) b n lt =
    let sum = sum_by-cons (counts b n) p places in
    elim (cases_place p b n) [
      | inl is ↦ subst (λ m. Contains (p ∷ places) (record { block = b; number = m })) is.1 (subst (λ c. Contains (p ∷ places) (record { block = c; number = p.number })) is.0 (contains_first p places))
      | inr other ↦ let none = counts-other p b n other in contains_later p (record { block = b; number = n }) places (tally-contains places b n (omega arith))
    ]

pub contains-tally : (places : List Place) (p : Place) → Contains places p → 0 < tally places p.block p.number
contains-tally [] p c = absurd (contains_none p c)
contains-tally (q ∷ places) p c =
    let sum = sum_by-cons (counts p.block p.number) q places in
    elim (cases_place q p.block p.number) [
      | inl is ↦ let one = counts-is q p.block p.number is in omega arith
      | inr other ↦ let rest = contains-tally places p (contains_tail q p places (λ e. other (ap (λ (x : Place). x.block) e, ap (λ (x : Place). x.number) e)) c) in omega arith
    ]

pub marked-contains : (waits : Rows) (heap : List Place) (b n : ℕ) → AreMarked waits heap → Has waits b n → Contains heap (record { block = b; number = n })
marked-contains waits heap b n h has = let one = h.once b n has in tally-contains heap b n (omega arith)

pub contains-marked : (waits : Rows) (heap : List Place) (p : Place) → AreMarked waits heap → Contains heap p → Has waits p.block p.number
contains-marked waits heap p h c =
    elim (cases_has waits p.block p.number) [
      | inl has ↦ has
      | inr absent ↦ absurd (let none = h.only p.block p.number absent in let some = contains-tally heap p c in omega arith)
    ]

pub marked-pushed : (old new : Rows) (heap more : List Place) (p : Place) → AreMarked old heap → ¬ Has old p.block p.number → IsAdded old new p → IsPermutation (p ∷ heap) more → AreMarked new more
marked-pushed old new heap more p h free added moved = record {
  once = λ b n has. (let sum = sum_by_pushed (counts b n) p heap more moved in elim ((added b n).0 has) [
    | inl is ↦
        let one = counts-is p b n is in
        let none = h.only b n (λ had. free (subst (λ c. Has old c p.number) (sym is.0) (subst (Has old b) (sym is.1) had))) in
        omega arith
    | inr had ↦
        let one = h.once b n had in
        let none = counts-other p b n (λ is. free (subst (λ c. Has old c p.number) (sym is.0) (subst (Has old b) (sym is.1) had))) in
        omega arith
  ]);
  only = λ b n absent.
      (let sum = sum_by_pushed (counts b n) p heap more moved in
      let none = counts-other p b n (λ is. absent ((added b n).1 (inl is))) in
      let before = h.only b n (λ had. absent ((added b n).1 (inr had))) in
      omega arith);
}

pub marked-same : (old new : Rows) (heap : List Place) → AreMarked old heap → IsSameSet old new → AreMarked new heap
marked-same old new heap h same = record {
  once = λ b n has. h.once b n ((same b n).0 has);
  only = λ b n absent. h.only b n (λ had. absent ((same b n).1 had));
}

pub marked-popped : (old new : Rows) (heap rest : List Place) (p : Place) → AreMarked old heap → IsRemoved old new p → IsPermutation heap (p ∷ rest) → AreMarked new rest
marked-popped old new heap rest p h removed moved = record {
  once = λ b n has.
      (let sum = sum_by_popped (counts b n) p heap rest moved in
      let was = (removed b n).0 has in
      let one = h.once b n was.1 in
      let none = counts-other p b n was.0 in
      omega arith);
  only = λ b n absent. (let sum = sum_by_popped (counts b n) p heap rest moved in elim (cases_place p b n) [
    | inl is ↦
        let one = counts-is p b n is in
        elim (cases_has old b n) [
          | inl had ↦ let once = h.once b n had in omega arith
          | inr lacked ↦ let never = h.only b n lacked in omega arith
        ]
    | inr other ↦
        let none = counts-other p b n other in
        let never = h.only b n (λ had. absent ((removed b n).1 (other, had))) in
        omega arith
  ]);
}

-- what is popped is the first of the set
pub first-marked : (orders : List (List ℕ)) (marks : Rows) (heap rest : List Place) (p : Place) → AreMarked marks heap → IsPermutation heap (p ∷ rest) → All (λ other. ¬ ComesBefore orders other p) heap → IsFirst orders marks p
first-marked orders marks heap rest p h moved least = record {
  there = contains-marked marks heap p h (Contains-permutation (p ∷ rest) heap p (IsPermutation-sym heap (p ∷ rest) moved) (contains_first p rest));
  none_before = λ b n has. All-contains (λ other. ¬ ComesBefore orders other p) heap _ least (marked-contains marks heap b n h has);
}
