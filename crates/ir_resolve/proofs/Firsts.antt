-- The first line at which something holds of one of several items.
use Rattle.ir_resolve.proofs.Common.{◌≡◌, ◌⊎◌, inl, inr, ℕ, ◌+◌, ◌<◌, ◌≤◌, leb, Bool, true, false, cond, List, [], ◌∷◌, ◌++◌, map, take, length, get_or, Option, None, Some, ◌↔◌, IsTrue, refl, ap, sym, subst, ◌∙◌, arith, then_some, cases_lt, leb-true, leb-false, false≢true, take_more, map_more, take_all, Contains-append_left, Contains-push, Contains-push_cases, IsFirst, IsFirstLine, SomeAt, lesser}

pub first_same : (P Q : ℕ → Type 0) → ((line : ℕ) → P line → Q line) → ((line : ℕ) → Q line → P line) → (found : Option ℕ) → IsFirst P found → IsFirst Q found
first_same P Q there back None none = λ line q. none line (back line q)
first_same P Q there back (Some line) (holds, least) = (there line holds, λ other q. least other (back other q))

least_of : (P Q : ℕ → Type 0) (a b : ℕ) (le : Bool) → leb a b ≡ le → IsFirstLine P a → IsFirstLine Q b → IsFirstLine (λ line. P line ⊎ Q line) (cond le a b)
least_of P Q a b true is (p, p_least) (q, q_least) = (inl p, λ other h. elim h [ inl x ↦ p_least other x | inr y ↦ let b_le : b ≤ other = q_least other y in let le : a ≤ b = leb-true a b is in omega arith ])
least_of P Q a b false is (p, p_least) (q, q_least) = (inr q, λ other h. elim h [ inl x ↦ let a_le : a ≤ other = p_least other x in let lt : b < a = leb-false a b is in omega arith | inr y ↦ q_least other y ])

pub first_either : (P Q : ℕ → Type 0) (a b : Option ℕ) → IsFirst P a → IsFirst Q b → IsFirst (λ line. P line ⊎ Q line) (lesser a b)
first_either P Q None None p q = λ line h. elim h [ inl x ↦ p line x | inr y ↦ q line y ]
first_either P Q None (Some b) p (q, least) = (inr q, λ other h. elim h [ inl x ↦ absurd (p other x) | inr y ↦ least other y ])
first_either P Q (Some a) None (p, least) q = (inl p, λ other h. elim h [ inl x ↦ least other x | inr y ↦ absurd (q other y) ])
first_either P Q (Some a) (Some b) p q = least_of P Q a b (leb a b) refl p q

module _ {X : Type 0} (P : X → ℕ → Type 0) where
  pub first_push : (xs : List X) (x : X) (found here : Option ℕ) → IsFirst (SomeAt xs P) found → IsFirst (P x) here → IsFirst (SomeAt (xs ++ x ∷ []) P) (lesser found here)
  first_push xs x found here before now =
      first_same (λ line. SomeAt xs P line ⊎ P x line) (SomeAt (xs ++ x ∷ []) P)
      (λ line h. elim h [ inl (y, in_xs, p) ↦ (y, Contains-append_left xs (x ∷ []) y in_xs, p) | inr p ↦ (x, Contains-push xs x, p) ])
      (λ line (y, in_all, p). elim (Contains-push_cases xs x y in_all) [ inl in_xs ↦ inl (y, in_xs, p) | inr e ↦ inr (subst (λ z. P z line) (sym e) p) ])
      (lesser found here)
      (first_either (SomeAt xs P) (P x) found here before now)

  pub first_more : (xs : List X) (i : ℕ) (x : X) (found here new : Option ℕ) → i < length xs → x ≡ get_or xs i x → IsFirst (SomeAt (take i xs) P) found → IsFirst (P x) here → new ≡ lesser found here → IsFirst (SomeAt (take (i + 1) xs) P) new
  first_more xs i x found here new lt at before now is =
      let more : take (i + 1) xs ≡ take i xs ++ x ∷ [] = take_more xs i x lt ∙ ap (λ y. take i xs ++ y ∷ []) (sym at) in
      rw (more, is) (first_push (take i xs) x found here before now)

  pub first_all : (xs : List X) (i : ℕ) (found : Option ℕ) → length xs ≤ i → IsFirst (SomeAt (take i xs) P) found → IsFirst (SomeAt xs P) found
  first_all xs i found le h = subst (λ ys. IsFirst (SomeAt ys P) found) (take_all i xs le) h

-- the same for the views of the items
module _ {X Y : Type 0} (f : X → Y) (P : Y → ℕ → Type 0) where
  pub first_more_seen : (xs : List X) (i : ℕ) (x : X) (found here new : Option ℕ) → i < length xs → x ≡ get_or xs i x → IsFirst (SomeAt (map f (take i xs)) P) found → IsFirst (P (f x)) here → new ≡ lesser found here → IsFirst (SomeAt (map f (take (i + 1) xs)) P) new
  first_more_seen xs i x found here new lt at before now is =
      let more : map f (take (i + 1) xs) ≡ map f (take i xs) ++ f x ∷ [] = map_more f xs i x lt ∙ ap (λ y. map f (take i xs) ++ f y ∷ []) (sym at) in
      rw (more, is) (first_push P (map f (take i xs)) (f x) found here before now)

  pub first_all_seen : (xs : List X) (i : ℕ) (found : Option ℕ) → length xs ≤ i → IsFirst (SomeAt (map f (take i xs)) P) found → IsFirst (SomeAt (map f xs) P) found
  first_all_seen xs i found le h = subst (λ ys. IsFirst (SomeAt (map f ys) P) found) (take_all i xs le) h

first_of : (b : Bool) (P : Type 0) (line : ℕ) → (IsTrue b ↔ P) → IsFirst (λ at. P × (line ≡ at)) (then_some b line)
first_of true P line iff = ((iff.0 refl, refl), λ other (p, is). omega arith)
first_of false P line iff = λ other (p, is). false≢true (iff.1 p)

pub first_if : (b : Bool) (P : Type 0) (line : ℕ) (here : Option ℕ) → (IsTrue b ↔ P) → here ≡ then_some b line → IsFirst (λ at. P × (line ≡ at)) here
first_if b P line here iff is = rw is (first_of b P line iff)

-- the same by index
abbrev pub Before : (ℕ → ℕ → Type 0) → ℕ → ℕ → Type 0
Before At i line = (j : ℕ) × (j < i) × At j line

pub first_more_place : (At : ℕ → ℕ → Type 0) (i : ℕ) (found here new : Option ℕ) → IsFirst (Before At i) found → IsFirst (At i) here → new ≡ lesser found here → IsFirst (Before At (i + 1)) new
first_more_place At i found here new before now is =
    rw is
    (first_same (λ line. Before At i line ⊎ At i line) (Before At (i + 1))
    (λ line h. elim h [ inl (j, lt, at) ↦ (j, omega arith, at) | inr at ↦ (i, omega arith, at) ])
    (λ line (j, lt, at). elim (cases_lt j i) [ inl lt ↦ inl (j, lt, at) | inr ge ↦ let e : j ≡ i = omega arith in inr (subst (λ p. At p line) e at) ])
    (lesser found here)
    (first_either (Before At i) (At i) found here before now))

pub first_all_places : (At : ℕ → ℕ → Type 0) (i : ℕ) (found : Option ℕ) → ((j line : ℕ) → At j line → j < i) → IsFirst (Before At i) found → IsFirst (λ line. (j : ℕ) × At j line) found
first_all_places At i found within first = first_same (Before At i) (λ line. (j : ℕ) × At j line) (λ line (j, lt, at). (j, at)) (λ line (j, at). (j, within j line at, at)) found first
