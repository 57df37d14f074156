-- The items of a list with a property that is decided for each.
use Rattle.draft_steps.proofs.Common.{◌⊎◌, inl, inr, List, [], ◌∷◌, get_or, sym, subst, AllPairs, Contains, All-contains, Contains-get_or, AllPairs-cons, cases_in, first_in, later_in, not_in_empty, pairs_first, pairs_later}

pub record Filtered {X : Type 0} (P : X → Type 0) (R : X → X → Type 0) (xs : List X) : Type 0 where
  pub kept : List X
  pub each : (x : X) → Contains kept x → Contains xs x × P x
  pub all : (x : X) → Contains xs x → P x → Contains kept x
  pub in_order : AllPairs R xs → AllPairs R kept

module _ {X : Type 0} (P : X → Type 0) (R : X → X → Type 0) where
  with_first : (x : X) (xs : List X) → P x → Filtered P R xs → Filtered P R (x ∷ xs)
  with_first x xs p rest = record {
    kept = x ∷ rest.kept;
    each = λ y has. elim (cases_in x rest.kept y has) [
      | inl is ↦ (subst (Contains (x ∷ xs)) is (first_in x xs), subst P is p)
      | inr later ↦ let h = rest.each y later in (later_in x xs y h.0, h.1)
    ];
    all = λ y has q. elim (cases_in x xs y has) [
      | inl is ↦ subst (Contains (x ∷ rest.kept)) is (first_in x rest.kept)
      | inr later ↦ later_in x rest.kept y (rest.all y later q)
    ];
    in_order = λ pairs. AllPairs-cons R x rest.kept
        (λ i d lt. All-contains (R x) xs (get_or rest.kept i d) (pairs_first R x xs pairs) (rest.each (get_or rest.kept i d) (Contains-get_or rest.kept i d lt)).0)
        (rest.in_order (pairs_later R x xs pairs));
  }

  without_first : (x : X) (xs : List X) → ¬ P x → Filtered P R xs → Filtered P R (x ∷ xs)
  without_first x xs other rest = record {
    kept = rest.kept;
    each = λ y has. let h = rest.each y has in (later_in x xs y h.0, h.1);
    all = λ y has q. elim (cases_in x xs y has) [
      | inl is ↦ absurd (other (subst P (sym is) q))
      | inr later ↦ rest.all y later q
    ];
    in_order = λ pairs. rest.in_order (pairs_later R x xs pairs);
  }

  pub filtered : (xs : List X) → ((x : X) → Contains xs x → P x ⊎ ¬ P x) → Filtered P R xs
  filtered [] decide = record {
    kept = [];
    each = λ y has. absurd (not_in_empty y has);
    all = λ y has q. absurd (not_in_empty y has);
    in_order = λ pairs. pairs;
  }
  filtered (x ∷ xs) decide =
      let rest : Filtered P R xs = filtered xs (λ y has. decide y (later_in x xs y has)) in
      elim (decide x (first_in x xs)) [ inl p ↦ with_first x xs p rest | inr other ↦ without_first x xs other rest ]
