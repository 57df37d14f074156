-- Finite sets in a strict order.
use Rattle.draft_steps.proofs.Common.{◌≡◌, ◌⊎◌, inl, inr, ℕ, zero, suc, ◌≤◌, List, [], ◌∷◌, length, refl, sym, ap, subst, ◌∙◌, arith, Contains, cases_in, first_in, later_in, not_in_empty}

-- the list without one of its items
record Others {A : Type 0} (xs : List A) (x : A) : Type 0 where
  others : List A
  fewer : length xs ≡ suc (length others)
  has : (y : A) → Contains xs y → (y ≡ x) ⊎ Contains others y

others_of : {A : Type 0} (xs : List A) (x : A) → Contains xs x → Others xs x
others_of [] x there = absurd (not_in_empty x there)
others_of (z ∷ xs) x there = elim (cases_in z xs x there) [
  | inl first ↦ record {
    others = xs;
    fewer = refl;
    has = λ y among. elim (cases_in z xs y among) [ inl same ↦ inl (sym same ∙ first) | inr later ↦ inr later ];
  }
  | inr behind ↦
      let rest = others_of xs x behind in
      record {
        others = z ∷ rest.others;
        fewer = ap suc rest.fewer;
        has = λ y among. elim (cases_in z xs y among) [
          | inl same ↦ inr (subst (Contains (z ∷ rest.others)) same (first_in z rest.others))
          | inr later ↦ elim (rest.has y later) [ inl is ↦ inl is | inr other ↦ inr (later_in z rest.others y other) ]
        ];
      }
]

-- a property that an item has where all behind it have it, is one of all items
module _ {A : Type 0} (Before : A → A → Type 0) (apart : (x : A) → ¬ Before x x) (transitive : (x y z : A) → Before x y → Before y z → Before x z)
    (P : A → Type 0) (step : (x : A) → ((y : A) → Before x y → P y) → P x) where
  before_few : (n : ℕ) (xs : List A) → length xs ≤ n → (x : A) → ((y : A) → Before x y → Contains xs y) → P x
  before_few zero xs few x all = step x (λ y behind. absurd (let (k, within, is) = all y behind in omega (arith, few, within)))
  before_few (suc n) xs few x all = step x (λ y behind.
      let rest = others_of xs y (all y behind) in
      before_few n rest.others (omega (arith, few, rest.fewer)) y (λ z more. elim (rest.has z (all z (transitive x y z behind more))) [
        | inl same ↦ absurd (apart y (subst (Before y) same more))
        | inr other ↦ other
      ]))

  pub from_last : (all : List A) → ((x y : A) → Before x y → Contains all y) → (x : A) → P x
  from_last all has x = before_few (length all) all (omega arith) x (has x)
