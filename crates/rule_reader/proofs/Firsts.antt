-- The first line with a statement that Q holds of.
use Rattle.rule_reader.proofs.Common.{◌≡◌, ◌⊎◌, inl, inr, ℕ, ◌+◌, ◌<◌, ◌≤◌, List, length, Some, refl, ap, subst, arith, slice_get, slice_get_within, RawStatement, AreInLineOrder, StandsAt, IsFirstLine}
use Rattle.rule_reader.proofs.Places.{order, same_at}

-- Q holds of no statement before this place
abbrev pub NoneBefore : List RawStatement → (ℕ → RawStatement → Type 0) → ℕ → Type 0
NoneBefore statements Q place = (k : ℕ) (s : RawStatement) → k < place → slice_get statements k ≡ Some s → ¬ Q k s

module _ (statements : List RawStatement) (Q : ℕ → RawStatement → Type 0) where
  pub first_here : (k : ℕ) (s : RawStatement) → AreInLineOrder statements → NoneBefore statements Q k → slice_get statements k ≡ Some s → Q k s → IsFirstLine (StandsAt statements Q) s.line
  first_here k s ordered none at here = (
    (k, s, at, here, refl),
    λ other (j, t, at', there, is). elim (order j k) [
      | inl lt ↦ absurd (none j t lt at' there)
      | inr (inl e) ↦ let same : t ≡ s = same_at statements k t s (subst (λ i. slice_get statements i ≡ Some t) e at') at in
          let lines : t.line ≡ s.line = ap (λ (x : RawStatement). x.line) same in
          omega arith
      | inr (inr gt) ↦ let le : s.line ≤ t.line = ordered k j s t gt at at' in omega arith
    ],
  )

  pub first_none : NoneBefore statements Q (length statements) → (line : ℕ) → ¬ StandsAt statements Q line
  first_none none line (k, s, at, here, is) = none k s (slice_get_within statements k s at) at here

  pub none_more : (place : ℕ) (s : RawStatement) → NoneBefore statements Q place → slice_get statements place ≡ Some s → ¬ Q place s → NoneBefore statements Q (place + 1)
  none_more place s none at not_here = λ k t lt at' here. elim (order k place) [
    | inl before ↦ none k t before at' here
    | inr (inl e) ↦
        let same : t ≡ s = same_at statements place t s (subst (λ i. slice_get statements i ≡ Some t) e at') at in
        not_here (subst (λ x. Q place x) same (subst (λ i. Q i t) e here))
    | inr (inr gt) ↦ absurd (omega arith)
  ]

-- of two kinds of lines, the first of the one that comes first is the first of both
pub first_left : (P R : ℕ → Type 0) (line : ℕ) → IsFirstLine P line → ((l m : ℕ) → P l → R m → l ≤ m) → IsFirstLine (λ l. P l ⊎ R l) line
first_left P R line first before = (inl first.0, λ other h. elim h [ inl p ↦ first.1 other p | inr r ↦ before line other first.0 r ])

pub first_right : (P R : ℕ → Type 0) (line : ℕ) → ((l : ℕ) → ¬ P l) → IsFirstLine R line → IsFirstLine (λ l. P l ⊎ R l) line
first_right P R line none first = (inr first.0, λ other h. elim h [ inl p ↦ absurd (none other p) | inr r ↦ first.1 other r ])

pub first_none_of : (P R : ℕ → Type 0) → ((l : ℕ) → ¬ P l) → ((l : ℕ) → ¬ R l) → (l : ℕ) → ¬ (P l ⊎ R l)
first_none_of P R none none' l h = elim h [ inl p ↦ none l p | inr r ↦ none' l r ]

-- the lines of statements of one half come before those of the other
pub lines_before : (xs ys : List RawStatement) (Q R : ℕ → RawStatement → Type 0) → ((j k : ℕ) (s t : RawStatement) → slice_get xs j ≡ Some s → slice_get ys k ≡ Some t → s.line ≤ t.line) → (l m : ℕ) → StandsAt xs Q l → StandsAt ys R m → l ≤ m
lines_before xs ys Q R before l m (j, s, at, here, is) (k, t, at', there, is') = let le : s.line ≤ t.line = before j k s t at at' in omega arith
