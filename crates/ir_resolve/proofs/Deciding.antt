-- Decidable statements, and statements of lines that have a first line or none.
use Rattle.ir_resolve.proofs.Common.{◌≡◌, ◌⊎◌, inl, inr, ℕ, zero, suc, ◌+◌, ◌<◌, ◌==◌, Bool, true, false, List, [], ◌∷◌, length, take, Option, None, Some, refl, sym, subst, ◌∙◌, arith, slice_get, Contains, pointwise, bytes_decides, map_dec, cases_eq, false≢true, slice_get_within, same_Some, IsFirst, SomeAt, lesser, SomeHas, RepeatsHere, Repeats}
use Rattle.ir_resolve.proofs.Firsts.{Before, first_same, first_either, first_more_place, first_all_places}
use Rattle.ir_resolve.proofs.Checked.{contained_behind}

-- ---- decisions

pub dec_both : {P Q : Type 0} → Dec P → Dec Q → Dec (P × Q)
dec_both (yes p) (yes q) = yes (p, q)
dec_both (yes p) (no h) = no (λ both. h both.1)
dec_both (no h) d = no (λ both. h both.0)

pub dec_either : {P Q : Type 0} → Dec P → Dec Q → Dec (P ⊎ Q)
dec_either (yes p) d = yes (inl p)
dec_either (no h) (yes q) = yes (inr q)
dec_either (no h) (no k) = no (λ one. elim one [ inl p ↦ h p | inr q ↦ k q ])

pub dec_not : {P : Type 0} → Dec P → Dec (¬ P)
dec_not (yes p) = no (λ h. h p)
dec_not (no h) = yes h

-- a decidable statement holds if it cannot fail
pub stable : {P : Type 0} → Dec P → ¬ (¬ P) → P
stable (yes p) h = p
stable (no k) h = absurd (h k)

pub dec_number : (m n : ℕ) → Dec (m ≡ n)
dec_number m n = elim (cases_eq m n) [ inl same ↦ yes same | inr other ↦ no other ]

pub dec_name : (a b : List ℕ) → Dec (a ≡ b)
dec_name a b = by (pointwise ◌==◌ a b) refl
  where
    by : (answer : Bool) → pointwise ◌==◌ a b ≡ answer → Dec (a ≡ b)
    by true is = yes ((bytes_decides a b).0 is)
    by false is = no (λ same. false≢true (sym is ∙ (bytes_decides a b).1 same))

-- whether P holds of an item is decidable
pub dec_one : {X : Type 0} (P : X → Type 0) (xs : List X) → ((x : X) → Dec (P x)) → Dec ((x : X) × Contains xs x × P x)
dec_one P [] each = no (λ (x, (k, lt, is), p). omega arith)
dec_one P (a ∷ xs) each = elim (each a) [
  | yes p ↦ yes (a, (0, omega arith, refl), p)
  | no not_first ↦ elim (dec_one P xs each) [
    | yes (x, (k, lt, is), p) ↦ yes (x, (suc k, omega arith, is), p)
    | no none ↦ no (λ (x, among, p). elim (contained_behind a xs x among) [ inl one ↦ not_first (subst P (sym one) p) | inr behind ↦ none (x, behind, p) ])
  ]
]

-- whether P holds of the item at an index is decidable
pub dec_at : {X : Type 0} (P : X → Type 0) (xs : List X) (k : ℕ) → ((x : X) → Dec (P x)) → Dec ((x : X) × (slice_get xs k ≡ Some x) × P x)
dec_at {X} P xs k each = by (slice_get xs k) refl
  where
    by : (found : Option X) → slice_get xs k ≡ found → Dec ((x : X) × (slice_get xs k ≡ Some x) × P x)
    by None is = no (λ (x, at, p). let none : None ≡ Some x = sym is ∙ at in cc)
    by (Some x) is = map_dec (λ p. (x, is, p)) (λ (y, at, p). subst P (same_Some y x (sym at ∙ is)) p) (each x)

-- ---- first lines

-- the first line of which something holds, or that there is none
abbrev pub FirstOf : (ℕ → Type 0) → Type 0
FirstOf Holds = (found : Option ℕ) × IsFirst Holds found

pub first_moved : (P Q : ℕ → Type 0) → ((line : ℕ) → P line → Q line) → ((line : ℕ) → Q line → P line) → FirstOf P → FirstOf Q
first_moved P Q there back (found, first) = (found, first_same P Q there back found first)

pub none_first : (P : ℕ → Type 0) → ((line : ℕ) → ¬ P line) → FirstOf P
none_first P none = (None, none)

-- a decidable statement that is about one line
pub first_on : {P : Type 0} (line : ℕ) → Dec P → FirstOf (λ at. P × (line ≡ at))
first_on line (yes p) = (Some line, ((p, refl), λ other (q, is). omega arith))
first_on line (no h) = (None, λ other (p, is). h p)

pub first_of_two : (P Q : ℕ → Type 0) → FirstOf P → FirstOf Q → FirstOf (λ line. P line ⊎ Q line)
first_of_two P Q (a, first_a) (b, first_b) = (lesser a b, first_either P Q a b first_a first_b)

pub first_of_some : {X : Type 0} (P : X → ℕ → Type 0) (xs : List X) → ((x : X) → FirstOf (P x)) → FirstOf (SomeAt xs P)
first_of_some P [] each = none_first (SomeAt [] P) (λ line (x, (k, lt, is), p). omega arith)
first_of_some P (a ∷ xs) each =
    first_moved (λ line. P a line ⊎ SomeAt xs P line) (SomeAt (a ∷ xs) P)
    (λ line h. elim h [ inl p ↦ (a, (0, omega arith, refl), p) | inr (x, (k, lt, is), p) ↦ (x, (suc k, omega arith, is), p) ])
    (λ line (x, among, p). elim (contained_behind a xs x among) [ inl one ↦ inl (subst (λ y. P y line) (sym one) p) | inr behind ↦ inr (x, behind, p) ])
    (first_of_two (P a) (SomeAt xs P) (each a) (first_of_some P xs each))

first_before : (At : ℕ → ℕ → Type 0) (n : ℕ) → ((j : ℕ) → FirstOf (At j)) → FirstOf (Before At n)
first_before At zero each = none_first (Before At 0) (λ line (j, lt, at). omega arith)
first_before At (suc n) each =
    let (found, before) = first_before At n each in
    let (here, now) = each n in
    let next : n + 1 ≡ suc n = omega arith in
    (lesser found here, subst (λ m. IsFirst (Before At m) (lesser found here)) next (first_more_place At n found here (lesser found here) before now refl))

-- the first line over all indices
pub first_by_place : (At : ℕ → ℕ → Type 0) (n : ℕ) → ((j : ℕ) → FirstOf (At j)) → ((j line : ℕ) → At j line → j < n) → FirstOf (λ line. (j : ℕ) × At j line)
first_by_place At n each within = let (found, first) = first_before At n each in (found, first_all_places At n found within first)

-- the first line for the item at an index
pub first_at : {X : Type 0} (P : X → ℕ → Type 0) (xs : List X) (k : ℕ) → ((x : X) → FirstOf (P x)) → FirstOf (λ line. (x : X) × (slice_get xs k ≡ Some x) × P x line)
first_at {X} P xs k each = by (slice_get xs k) refl
  where
    by : (found : Option X) → slice_get xs k ≡ found → FirstOf (λ line. (x : X) × (slice_get xs k ≡ Some x) × P x line)
    by None is = (None, λ line (x, at, p). let none : None ≡ Some x = sym is ∙ at in cc)
    by (Some x) is =
        first_moved (P x) (λ line. (x : X) × (slice_get xs k ≡ Some x) × P x line) (λ line p. (x, is, p)) (λ line (y, at, p). subst (λ z. P z line) (same_Some y x (sym at ∙ is)) p) (each x)

-- ---- repetitions

-- the item has exactly one k, and is on exactly one line
abbrev pub HasOne : {X K : Type 0} → (X → K → Type 0) → (X → ℕ → Type 0) → X → Type 0
HasOne {X} {K} Has StandsOn x = (k : K) × (line : ℕ) × Has x k × ((j : K) → Has x j → j ≡ k) × StandsOn x line × ((at : ℕ) → StandsOn x at → line ≡ at)

module _ {X K : Type 0} (Has : X → K → Type 0) (StandsOn : X → ℕ → Type 0) (same : (j k : K) → Dec (j ≡ k)) (one : (x : X) → HasOne Has StandsOn x ⊎ ((k : K) → ¬ Has x k)) where
  dec_has : (k : K) (x : X) → Dec (Has x k)
  dec_has k x = elim (one x) [
    | inl (j, line, has, only, on, only_line) ↦ map_dec (λ e. subst (Has x) e has) (λ h. sym (only k h)) (same j k)
    | inr none ↦ no (none k)
  ]

  repeat_here : (xs : List X) (i : ℕ) (x : X) → FirstOf (λ line. (k : K) × Has x k × SomeHas Has (take i xs) k × StandsOn x line)
  repeat_here xs i x = elim (one x) [
    | inr none ↦ (None, λ line (k, has, before, on). none k has)
    | inl (j, line, has, only, on, only_line) ↦
        first_moved (λ at. SomeHas Has (take i xs) j × (line ≡ at)) (λ at. (k : K) × Has x k × SomeHas Has (take i xs) k × StandsOn x at)
        (λ at (before, is). (j, has, before, subst (StandsOn x) is on))
        (λ at (k, h, before, stands). (subst (SomeHas Has (take i xs)) (only k h) before, only_line at stands))
        (first_on line (dec_one (λ y. Has y j) (take i xs) (dec_has j)))
  ]

  pub first_again : (xs : List X) → FirstOf (Repeats Has StandsOn xs)
  first_again xs =
      first_by_place (RepeatsHere Has StandsOn xs) (length xs)
      (λ i. first_moved (λ line. (x : X) × (slice_get xs i ≡ Some x) × ((k : K) × Has x k × SomeHas Has (take i xs) k × StandsOn x line)) (RepeatsHere Has StandsOn xs i)
      (λ line (x, at, (k, has, before, on)). (x, k, at, has, before, on)) (λ line (x, k, at, has, before, on). (x, at, (k, has, before, on)))
      (first_at (λ x line. (k : K) × Has x k × SomeHas Has (take i xs) k × StandsOn x line) xs i (repeat_here xs i)))
      (λ j line (x, k, at, has, before, on). slice_get_within xs j x at)
