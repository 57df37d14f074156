-- States that are closed under unit propagation, and what such a state shows of derivations from states that hold less.
use Rattle.clauses.proofs.Common.{◌≡◌, ℕ, true, false, List, [], ◌∷◌, Some, length, get_or, refl, sym, ap, ◌∙◌, inl, inr, subst, slice_get, remove, ◌⊎◌, Lit, negation_of, is_same, Derives, IsFalsified, IsUnit, SomeFalsified, is_held, is_false, negations_of, IsNew, UnitsRefute, cases_Bool, or_cases, true≢false, slice_get_read}
use Rattle.clauses.proofs.Held.{is_same-true}
use Rattle.clauses.proofs.Units.{falsified_from, unit_from, unit_only, unit_stands}

-- each literal that is held in the first state is held in the second
pub record HeldWithin (held all : List Lit) : Type 0 where
  pub each : (l : Lit) → is_held held l ≡ true → is_held all l ≡ true

pub HeldWithin-nil : (all : List Lit) → HeldWithin [] all
HeldWithin-nil all = record { each = λ l h. absurd (true≢false (sym h)) }

pub HeldWithin-cons : (l : Lit) (held all : List Lit) → is_held all l ≡ true → HeldWithin held all → HeldWithin (l ∷ held) all
HeldWithin-cons l held all here h =
    record {
      each = λ m is.
          elim (or_cases (is_same m l) (is_held held m) is) [
            | inl same ↦ ap (is_held all) (is_same-true m l same) ∙ here
            | inr before ↦ h.each m before
          ];
    }

-- The state is closed under unit propagation without a conflict: no clause is false, and a literal that is unit in a
-- clause is held already.
pub record IsClosed (clauses : List (List Lit)) (all : List Lit) : Type 0 where
  pub none_false : (number : ℕ) (clause : List Lit) → slice_get clauses number ≡ Some clause → ¬ (IsFalsified all clause)
  pub units_held : (number : ℕ) (clause : List Lit) (l : Lit) → slice_get clauses number ≡ Some clause → IsUnit all clause l → is_held all l ≡ true

pub not_held : (held all : List Lit) (l : Lit) → HeldWithin held all → is_held all l ≡ false → is_held held l ≡ false
not_held held all l h free =
    elim (cases_Bool (is_held held l)) [
      | inl here ↦ absurd (true≢false (sym (h.each l here) ∙ free))
      | inr gone ↦ gone
    ]

-- a clause that is false under a state is false under each state that holds more
pub IsFalsified-more : (held all : List Lit) → HeldWithin held all → (clause : List Lit) → IsFalsified held clause → IsFalsified all clause
IsFalsified-more held all h clause none = λ k d within. h.each (negation_of (get_or clause k d)) (none k d within)

-- a clause with a unit literal, in a state that holds more: the clause is false there, or the literal is unit still
pub IsUnit-more : (held all : List Lit) → HeldWithin held all → (clause : List Lit) (l : Lit) → IsUnit held clause l → IsFalsified all clause ⊎ IsUnit all clause l
IsUnit-more held all h clause l unit =
    let only : (m : Lit) → is_held clause m ≡ true → is_false all m ≡ false → m ≡ l =
    λ m stands kept. unit_only held clause l m unit stands (not_held held all (negation_of m) h kept) in
    elim (cases_Bool (is_false all l)) [
      | inl closed ↦
          inl (falsified_from all clause (λ m stands.
          elim (cases_Bool (is_false all m)) [
            | inl is ↦ is
            | inr kept ↦ subst (λ k. is_false all k ≡ true) (sym (only m stands kept)) closed
          ]))
      | inr kept ↦ inr (unit_from all clause l (unit_stands held clause l unit) kept only)
    ]

-- a derivation that begins within a closed state ends within it
pub Derives-within : (clauses : List (List Lit)) (all : List Lit) → IsClosed clauses all → (held : List Lit) (numbers : List ℕ) (after : List Lit) → HeldWithin held all → Derives clauses held numbers after → HeldWithin after all
Derives-within clauses all closed held [] after h d = subst (λ state. HeldWithin state all) d h
Derives-within clauses all closed held (number ∷ numbers) after h d =
    let clause = d.1.0 in
    let here : is_held all d.0 ≡ true =
    elim (IsUnit-more held all h clause d.0 d.1.2) [
      | inl none ↦ absurd (closed.none_false number clause d.1.1 none)
      | inr still ↦ closed.units_held number clause d.0 d.1.1 still
    ] in
    Derives-within clauses all closed (d.0 ∷ held) numbers after (HeldWithin-cons d.0 held all here h) d.2

-- no clause is false in a state within a closed one
pub not_SomeFalsified : (clauses : List (List Lit)) (all held : List Lit) → IsClosed clauses all → HeldWithin held all → ¬ (SomeFalsified clauses held)
not_SomeFalsified clauses all held closed h (k, clause, within, at, none) =
    closed.none_false k clause (slice_get_read clauses (length clauses) k clause refl within (sym at))
    (IsFalsified-more held all h clause none)

-- A clause is new where some closed state holds the negations of all its literals but the one at this place, and
-- doesn't hold that one.
pub IsNew-from_closed : (earlier : List (List Lit)) (all clause : List Lit) (place : ℕ) (l : Lit) → IsClosed earlier all → slice_get clause place ≡ Some l → HeldWithin (negations_of (remove clause place)) all → is_held all l ≡ false → IsNew earlier clause
IsNew-from_closed earlier all clause place l closed at within free = (
  place,
  l,
  at,
  λ moves held d.
      let h : HeldWithin held all = Derives-within earlier all closed (negations_of (remove clause place)) moves held within d in
      (not_held held all l h free, not_SomeFalsified earlier all held closed h),
)

-- unit propagation alone finds no conflict where some state is closed
pub not_UnitsRefute : (clauses : List (List Lit)) (all : List Lit) → IsClosed clauses all → ¬ (UnitsRefute clauses)
not_UnitsRefute clauses all closed (moves, held, d, some) =
    not_SomeFalsified clauses all held closed (Derives-within clauses all closed [] moves held (HeldWithin-nil all) d) some
