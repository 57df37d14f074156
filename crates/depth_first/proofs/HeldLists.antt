-- What joined lists of literals hold, and states in which a variable is open, or no variable has two values.
use Rattle.depth_first.proofs.Common.{◌≡◌, ℕ, Bool, true, false, not, List, [], ◌∷◌, ◌++◌, Some, sym, ap, ◌∙◌, inl, inr, subst, zero, suc, take, slice_get, ◌⊎◌, or_cases, or_left, or_right, true≢false, map-append, Lit, negation_of, is_same, literal_of, is_held, is_false, made, is_same-true, is_same-self, HeldWithin, not_held, Entry, literals, IsOpen}

pub held_left : (xs ys : List Lit) (l : Lit) → is_held xs l ≡ true → is_held (xs ++ ys) l ≡ true
held_left [] ys l h = absurd (true≢false (sym h))
held_left (x ∷ xs) ys l h =
    elim (or_cases (is_same l x) (is_held xs l) h) [
      | inl same ↦ or_left (is_same l x) (is_held (xs ++ ys) l) same
      | inr rest ↦ or_right (is_same l x) (is_held (xs ++ ys) l) (held_left xs ys l rest)
    ]

pub held_right : (xs ys : List Lit) (l : Lit) → is_held ys l ≡ true → is_held (xs ++ ys) l ≡ true
held_right [] ys l h = h
held_right (x ∷ xs) ys l h = or_right (is_same l x) (is_held (xs ++ ys) l) (held_right xs ys l h)

pub held_cases : (xs ys : List Lit) (l : Lit) → is_held (xs ++ ys) l ≡ true → (is_held xs l ≡ true) ⊎ (is_held ys l ≡ true)
held_cases [] ys l h = inr h
held_cases (x ∷ xs) ys l h =
    elim (or_cases (is_same l x) (is_held (xs ++ ys) l) h) [
      | inl same ↦ inl (or_left (is_same l x) (is_held xs l) same)
      | inr rest ↦
          elim (held_cases xs ys l rest) [
            | inl left ↦ inl (or_right (is_same l x) (is_held xs l) left)
            | inr right ↦ inr right
          ]
    ]

pub held_one : (x : Lit) → is_held (x ∷ []) x ≡ true
held_one x = or_left (is_same x x) false (is_same-self x)

pub held_one_same : (x l : Lit) → is_held (x ∷ []) l ≡ true → l ≡ x
held_one_same x l h =
    elim (or_cases (is_same l x) false h) [ inl same ↦ is_same-true l x same | inr none ↦ absurd (true≢false (sym none)) ]

pub held_last : (xs : List Lit) (x : Lit) → is_held (xs ++ x ∷ []) x ≡ true
held_last xs x = held_right xs (x ∷ []) x (held_one x)

pub not_held_nil : (l : Lit) → is_held [] l ≡ true → ⊥
not_held_nil l h = true≢false (sym h)

pub both_held : (held : List Lit) (l : Lit) → is_held held l ≡ true → is_held held l ≡ false → ⊥
both_held held l is isnt = true≢false (sym is ∙ isnt)

-- each literal of a list is held by it
pub held_at : (xs : List Lit) (k : ℕ) (l : Lit) → slice_get xs k ≡ Some l → is_held xs l ≡ true
held_at [] k l at = cc
held_at (x ∷ xs) zero l at =
    let same : x ≡ l = cc in
    or_left (is_same l x) (is_held xs l) (subst (λ m. is_same l m ≡ true) (sym same) (is_same-self l))
held_at (x ∷ xs) (suc k) l at = or_right (is_same l x) (is_held xs l) (held_at xs k l at)

-- no literal of an open variable is held
open_made : (held : List Lit) (n : ℕ) (b : Bool) → IsOpen held n → is_held held (made n b) ≡ false
open_made held n true o = o false
open_made held n false o = o true

pub open_not_held : (held : List Lit) (l : Lit) → IsOpen held l.variable → is_held held l ≡ false
open_not_held held l o = open_made held l.variable l.negated o

pub open_not_false : (held : List Lit) (l : Lit) → IsOpen held l.variable → is_false held l ≡ false
open_not_false held l o = open_made held l.variable (not l.negated) o

open_of_made : (held : List Lit) (n : ℕ) (b value : Bool) → is_held held (made n b) ≡ false → is_held held (made n (not b)) ≡ false → is_held held (literal_of n value) ≡ false
open_of_made held n true true h k = k
open_of_made held n true false h k = h
open_of_made held n false true h k = h
open_of_made held n false false h k = k

pub open_from : (held : List Lit) (l : Lit) → is_held held l ≡ false → is_held held (negation_of l) ≡ false → IsOpen held l.variable
open_from held l h k = λ value. open_of_made held l.variable l.negated value h k

pub open_within : (held all : List Lit) (n : ℕ) → HeldWithin held all → IsOpen all n → IsOpen held n
open_within held all n within o = λ value. not_held held all (literal_of n value) within (o value)

-- the state is consistent: no literal is held together with its negation
pub record Consistent (held : List Lit) : Type 0 where
  pub each : (l : Lit) → is_held held l ≡ true → is_false held l ≡ false

pub Consistent-within : (held all : List Lit) → HeldWithin held all → Consistent all → Consistent held
Consistent-within held all within ok =
    record { each = λ l h. not_held held all (negation_of l) within (ok.each l (within.each l h)) }

-- the literals of joined trails
pub literals-append : (xs ys : List Entry) → literals (xs ++ ys) ≡ literals xs ++ literals ys
literals-append xs ys = map-append (λ (e : Entry). e.literal) xs ys

pub literals_left : (xs ys : List Entry) (l : Lit) → is_held (literals xs) l ≡ true → is_held (literals (xs ++ ys)) l ≡ true
literals_left xs ys l h =
    ap (λ held. is_held held l) (literals-append xs ys) ∙ held_left (literals xs) (literals ys) l h

pub HeldWithin-entries : (xs ys : List Entry) → HeldWithin (literals xs) (literals (xs ++ ys))
HeldWithin-entries xs ys = record { each = literals_left xs ys }

pub literal_at : (entries : List Entry) (k : ℕ) (e : Entry) → slice_get entries k ≡ Some e → is_held (literals entries) e.literal ≡ true
literal_at [] k e at = cc
literal_at (x ∷ xs) zero e at =
    let same : x ≡ e = cc in
    let lits : x.literal ≡ e.literal = ap (λ (y : Entry). y.literal) same in
    or_left (is_same e.literal x.literal) (is_held (literals xs) e.literal) (subst (λ m. is_same e.literal m ≡ true) (sym lits) (is_same-self e.literal))
literal_at (x ∷ xs) (suc k) e at =
    or_right (is_same e.literal x.literal) (is_held (literals xs) e.literal) (literal_at xs k e at)

pub HeldWithin-take : (n : ℕ) (entries : List Entry) → HeldWithin (literals (take n entries)) (literals entries)
HeldWithin-take zero entries = record { each = λ l h. absurd (not_held_nil l h) }
HeldWithin-take (suc n) [] = record { each = λ l h. h }
HeldWithin-take (suc n) (x ∷ xs) =
    record {
      each = λ l h.
          elim (or_cases (is_same l x.literal) (is_held (literals (take n xs)) l) h) [
            | inl same ↦ or_left (is_same l x.literal) (is_held (literals xs) l) same
            | inr rest ↦ or_right (is_same l x.literal) (is_held (literals xs) l) ((HeldWithin-take n xs).each l rest)
          ];
    }
