-- Linear search for a name in a list.
use Rattle.rule_reader.proofs.Common.{◌≡◌, ◌⊎◌, inl, inr, ℕ, suc, ◌+◌, ◌<◌, Bool, true, false, List, length, Some, sym, ap, subst, ◌∙◌, arith, get_or, slice_get, Contains, IsTrue, map, bytes_eq, false≢true, slice_get_within, slice_get-get_or, bytes_eq-Decides, RawStatement, AssignsAt, IsRoot}
use Rattle.rule_reader.proofs.Places.{order, same_at, map_at, somewhere}

pub equal_names : (a b : List ℕ) (r : Bool) → r ≡ bytes_eq a b → r ≡ true → a ≡ b
equal_names a b r is h = (bytes_eq-Decides a b).0 (sym is ∙ h)

pub unequal_names : (a b : List ℕ) (r : Bool) → r ≡ bytes_eq a b → r ≡ false → ¬ (a ≡ b)
unequal_names a b r is h same = false≢true (sym h ∙ is ∙ (bytes_eq-Decides a b).1 same)

-- one more name was compared and is another
pub not_more : (names : List (List ℕ)) (place : ℕ) (other name : List ℕ) → slice_get names place ≡ Some other → ¬ (other ≡ name)
    → ((k : ℕ) → k < place → ¬ (slice_get names k ≡ Some name)) → (k : ℕ) → k < place + 1 → ¬ (slice_get names k ≡ Some name)
not_more names place other name at differ none k lt here = elim (order k place) [
  | inl before ↦ none k before here
  | inr (inl e) ↦ differ (same_at names place other name at (subst (λ i. slice_get names i ≡ Some name) e here))
  | inr (inr gt) ↦ absurd (omega arith)
]

pub not_there : (names : List (List ℕ)) (name : List ℕ) → ((k : ℕ) → k < length names → ¬ (slice_get names k ≡ Some name)) → ¬ Contains names name
not_there names name none among = let (k, at) = somewhere names name among in none k (slice_get_within names k name at) at

-- a test that answered `true` says that P holds
pub says : (b : Bool) (P : Type 0) → (IsTrue b → P) × (P → IsTrue b) → b ≡ true → P
says b P h is = h.0 is

pub denies : (b : Bool) (P : Type 0) → (IsTrue b → P) × (P → IsTrue b) → b ≡ false → ¬ P
denies b P h is p = false≢true (sym is ∙ h.1 p)

-- a test that answers rightly
pub is_yes : (b : Bool) (P : Type 0) → b ≡ true → P → (IsTrue b → P) × (P → IsTrue b)
is_yes b P is p = (λ _. p, λ _. is)

pub is_no : (b : Bool) (P : Type 0) → b ≡ false → ¬ P → (IsTrue b → P) × (P → IsTrue b)
is_no b P is not = (λ t. absurd (false≢true (sym is ∙ t)), λ p. absurd (not p))

-- a test of a disjunction
pub is_either : (a b : Bool) (P Q : Type 0) → a ≡ false → (IsTrue a → P) × (P → IsTrue a) → (IsTrue b → Q) × (Q → IsTrue b) → (IsTrue b → P ⊎ Q) × (P ⊎ Q → IsTrue b)
is_either a b P Q is p q = (λ t. inr (q.0 t), λ h. elim h [ inl h ↦ absurd (denies a P p is h) | inr h ↦ q.1 h ])

pub name_here : (statements : List RawStatement) (k : ℕ) (d : RawStatement) → k < length statements → AssignsAt statements k (get_or statements k d).name
name_here statements k d within = map_at (λ (s : RawStatement). s.name) statements k (get_or statements k d) (slice_get-get_or statements k d within)

-- the name of the last statement is the root's, and no other name is
pub root_is : (source : List RawStatement) (last : ℕ) (d : RawStatement) (text name : List ℕ) (b : Bool) → suc last ≡ length source → text ≡ (get_or source last d).name → b ≡ bytes_eq text name → (IsTrue b → IsRoot source name) × (IsRoot source name → IsTrue b)
root_is source last d text name b end is tested =
    let here = name_here source last d (omega arith) in (
      λ t. (last, end, here ∙ ap (λ n. Some n) (sym is ∙ equal_names text name b tested t)),
      λ (k, end', at). let e : k ≡ last = omega arith in
          tested ∙ (bytes_eq-Decides text name).1 (is ∙ same_at (map (λ (s : RawStatement). s.name) source) last (get_or source last d).name name here (subst (λ n. AssignsAt source n name) e at)),
    )
