-- Where a number stands in a list, and what a list has once a number is inserted.
use Rattle.places.proofs.Common.{◌≡◌, ℕ, zero, suc, ◌<◌, ◌⊎◌, inl, inr, List, [], ◌∷◌, length, get_or, get_or_default, refl, sym, ap, subst, ◌∙◌, arith, Contains, cases_eq, cond-true, cond-false, eq-eqb, ne_eqb, none, place_in, put_before}

pub contains_first : {X : Type 0} (x : X) (xs : List X) → Contains (x ∷ xs) x
contains_first x xs = (0, omega arith, refl)

pub contains_later : {X : Type 0} (x y : X) (xs : List X) → Contains xs y → Contains (x ∷ xs) y
contains_later x y xs c = (suc c.0, (let lt : c.0 < length xs = c.1 in omega arith), c.2)

in_tail : {X : Type 0} (x y : X) (xs : List X) (k : ℕ) → (x ≡ y → ⊥) → k < length (x ∷ xs) → get_or (x ∷ xs) k y ≡ y → Contains xs y
in_tail x y xs zero ne lt e = absurd (ne e)
in_tail x y xs (suc k) ne lt e = (k, omega arith, e)

pub contains_tail : {X : Type 0} (x y : X) (xs : List X) → (x ≡ y → ⊥) → Contains (x ∷ xs) y → Contains xs y
contains_tail x y xs ne c = in_tail x y xs c.0 ne c.1 c.2

pub contains_none : {X : Type 0} (y : X) → Contains [] y → ⊥
contains_none y c = let lt : c.0 < 0 = c.1 in omega arith

pub place-here : (m n : ℕ) (ns : List ℕ) → m ≡ n → place_in (m ∷ ns) n ≡ 0
place-here m n ns e = cond-true _ _ _ (eq-eqb m n e)

pub place-later : (m n : ℕ) (ns : List ℕ) → (m ≡ n → ⊥) → place_in (m ∷ ns) n ≡ suc (place_in ns n)
place-later m n ns ne = cond-false _ _ _ (ne_eqb m n ne)

pub put-here : (m at n : ℕ) (ns : List ℕ) → m ≡ at → put_before (m ∷ ns) at n ≡ n ∷ m ∷ ns
put-here m at n ns e = cond-true _ _ _ (eq-eqb m at e)

pub put-later : (m at n : ℕ) (ns : List ℕ) → (m ≡ at → ⊥) → put_before (m ∷ ns) at n ≡ m ∷ put_before ns at n
put-later m at n ns ne = cond-false _ _ _ (ne_eqb m at ne)

-- a number of a list is found at its place
pub record AtPlace (ns : List ℕ) (n : ℕ) : Type 0 where
  pub within : place_in ns n < length ns
  pub is : get_or ns (place_in ns n) none ≡ n

pub at_place : (ns : List ℕ) (n : ℕ) → Contains ns n → AtPlace ns n
at_place [] n c = absurd (contains_none n c)
at_place (m ∷ ns) n c =
    elim (cases_eq m n) [
      | inl e ↦ let here = place-here m n ns e in record {
        within = omega (arith, here);
        is = ap (λ i. get_or (m ∷ ns) i none) here ∙ e;
      }
      | inr ne ↦ let later = place-later m n ns ne in let rest = at_place ns n (contains_tail m n ns ne c) in record {
        within = omega (arith, later, rest.within);
        is = ap (λ i. get_or (m ∷ ns) i none) later ∙ rest.is;
      }
    ]

pub contains_at : (ns : List ℕ) (k : ℕ) → k < length ns → Contains ns (get_or ns k none)
contains_at ns k lt = (k, lt, get_or_default ns k (get_or ns k none) none lt)

-- a number that has a place within the list is there
pub place-is : (ns : List ℕ) (n : ℕ) → place_in ns n < length ns → get_or ns (place_in ns n) none ≡ n
place-is [] n lt = absurd (omega arith)
place-is (m ∷ ns) n lt =
    elim (cases_eq m n) [
      | inl e ↦ let here = place-here m n ns e in ap (λ i. get_or (m ∷ ns) i none) here ∙ e
      | inr ne ↦ let later = place-later m n ns ne in ap (λ i. get_or (m ∷ ns) i none) later ∙ place-is ns n (omega (arith, later))
    ]

pub length-put : (ns : List ℕ) (at n : ℕ) → Contains ns at → length (put_before ns at n) ≡ suc (length ns)
length-put [] at n c = absurd (contains_none at c)
length-put (m ∷ ns) at n c =
    elim (cases_eq m at) [
      | inl e ↦ ap length (put-here m at n ns e)
      | inr ne ↦ ap length (put-later m at n ns ne) ∙ ap suc (length-put ns at n (contains_tail m at ns ne c))
    ]

-- it has the new number, and all that it had
pub put-has : (ns : List ℕ) (at n x : ℕ) → Contains ns at → (n ≡ x) ⊎ Contains ns x → Contains (put_before ns at n) x
put-has [] at n x c h = absurd (contains_none at c)
put-has (m ∷ ns) at n x c h =
    elim (cases_eq m at) [
      | inl e ↦ subst (λ l. Contains l x) (sym (put-here m at n ns e)) (elim h [
        | inl is ↦ subst (Contains (n ∷ m ∷ ns)) is (contains_first n (m ∷ ns))
        | inr had ↦ contains_later n x (m ∷ ns) had
      ])
      | inr ne ↦ let rest = put-has ns at n x (contains_tail m at ns ne c) in
          subst (λ l. Contains l x) (sym (put-later m at n ns ne)) (elim h [
            | inl is ↦ contains_later m x (put_before ns at n) (rest (inl is))
            | inr had ↦ elim (cases_eq m x) [
              | inl same ↦ subst (Contains (m ∷ put_before ns at n)) same (contains_first m (put_before ns at n))
              | inr other ↦ contains_later m x (put_before ns at n) (rest (inr (contains_tail m x ns other had)))
            ]
          ])
    ]
