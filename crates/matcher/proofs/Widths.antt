-- Fixed widths, and those of the classes that a source names.
use Rattle.matcher.proofs.Common.{◌≡◌, ◌≢◌, ◌⊎◌, inl, inr, ℕ, zero, suc, ◌<◌, List, [], ◌∷◌, ◌++◌, length, Option, None, Some, refl, sym, ap, subst, ◌∙◌, arith, slice_get, IfSome, IfNone, cases_eq, cases_lt, slice_get_cases, same_Some, Fixed, IsTyping, Rule, HasClasses}

-- the items of a list to which one is appended
pub pushed : {X : Type 0} (xs : List X) (x : X) (k : ℕ) (y : X) → slice_get (xs ++ x ∷ []) k ≡ Some y → (slice_get xs k ≡ Some y) ⊎ ((k ≡ length xs) × (x ≡ y))
pushed [] x zero y at = inr (refl, same_Some x y at)
pushed [] x (suc k) y at = absurd cc
pushed (a ∷ xs) x zero y at = inl at
pushed (a ∷ xs) x (suc k) y at = elim (pushed xs x k y at) [
  | inl before ↦ inl before
  | inr (here, is) ↦ inr (omega arith, is)
]

-- the width is fixed for the class, or none is
abbrev pub IsFixed : Rule → ℕ → Option ℕ → Type 0
IsFixed rule c w = IfSome w (λ N. Fixed rule c N) × IfNone w ((N : ℕ) → ¬ Fixed rule c N)

abbrev pub AreFixed : Rule → List (Option ℕ) → Type 0
AreFixed rule widths = (c : ℕ) (w : Option ℕ) → slice_get widths c ≡ Some w → IsFixed rule c w

pub one_more : (rule : Rule) (old new : List (Option ℕ)) (c : ℕ) (w : Option ℕ) → new ≡ old ++ w ∷ [] → length old ≡ c → IsFixed rule c w → AreFixed rule old → AreFixed rule new
one_more rule old new c w is count fixed before d v at = elim (pushed old w d v (subst (λ (l : List (Option ℕ)). slice_get l d ≡ Some v) is at)) [
  | inl earlier ↦ before d v earlier
  | inr (here, same) ↦ subst (λ (x : Option ℕ). IsFixed rule d x) same (subst (λ (x : ℕ). IsFixed rule x w) (sym (here ∙ count)) fixed)
]

found : (rule : Rule) (c N : ℕ) (w : Option ℕ) → IsFixed rule c w → Fixed rule c N → (M : ℕ) × Fixed rule c M × (w ≡ Some M)
found rule c N None (some, none) fixed = absurd (none N fixed)
found rule c N (Some M) (some, none) fixed = (M, some, refl)

pub each_fixed : (rule : Rule) (widths : List (Option ℕ)) → AreFixed rule widths → (c N : ℕ) → c < length widths → Fixed rule c N → (M : ℕ) × Fixed rule c M × (slice_get widths c ≡ Some (Some M))
each_fixed rule widths are c N within fixed = elim (slice_get_cases widths c).1 [
  | inl (w, lt, at, is) ↦ let (M, is_fixed, some) = found rule c N w (are c w at) fixed in (M, is_fixed, at ∙ ap (λ (x : Option ℕ). Some x) some)
  | inr (past, none) ↦ absurd (omega arith)
]

no_gap : (n k : ℕ) → n ≢ k → ((c : ℕ) → c < n → c < k) → ((c : ℕ) → c < k → c < n) → ⊥
no_gap n k apart up down = elim (cases_lt n k) [
  | inl below ↦ let lt : n < n = down n below in omega arith
  | inr past ↦ let below : k < n = omega arith in let lt : k < k = up k below in omega arith
]

-- there is one width for each class
pub as_many : (rule : Rule) (typing : List ℕ) (n : ℕ) → IsTyping rule typing → HasClasses rule n → n ≡ length typing
as_many rule typing n typed classes = elim (cases_eq n (length typing)) [
  | inl same ↦ same
  | inr apart ↦ absurd (no_gap n (length typing) apart (λ c lt. typed.classes c ((classes c).1 lt)) (λ c lt. (classes c).0 (typed.no_more c lt)))
]

-- an equation of a width that can't be refuted holds
pub stable : (o : Option ℕ) (N : ℕ) → ((o ≡ Some N → ⊥) → ⊥) → o ≡ Some N
stable None N h = absurd (h (λ e. cc))
stable (Some M) N h = elim (cases_eq M N) [
  | inl same ↦ ap (λ (x : ℕ). Some x) same
  | inr apart ↦ absurd (h (λ e. apart (same_Some M N e)))
]
