-- Equality of numbers and of names is decided, and so is whether a name is used.
use Rattle.rule_reader.proofs.Common.{◌≡◌, ◌⊎◌, inl, inr, ℕ, List, [], ◌∷◌, refl, arith}
use Rattle.rule_reader.proofs.Places.{order}

-- two numbers are equal or not
pub same_number : (m n : ℕ) → (m ≡ n) ⊎ (¬ (m ≡ n))
same_number m n = elim (order m n) [ inl lt ↦ inr (λ e. absurd (omega arith)) | inr (inl e) ↦ inl e | inr (inr gt) ↦ inr (λ e. absurd (omega arith)) ]

-- two names are equal or not
pub same_name : (a b : List ℕ) → (a ≡ b) ⊎ (¬ (a ≡ b))
same_name [] [] = inl refl
same_name [] (y ∷ b) = inr (λ e. cc)
same_name (x ∷ a) [] = inr (λ e. cc)
same_name (x ∷ a) (y ∷ b) = elim (same_number x y) [
  | inr differ ↦ inr (λ e. differ (cc))
  | inl same ↦ elim (same_name a b) [ inr differ ↦ inr (λ e. differ (cc)) | inl rest ↦ inl (cc) ]
]

pub stable_name : (a b : List ℕ) → ¬ (¬ (a ≡ b)) → a ≡ b
stable_name a b h = elim (same_name a b) [ inl same ↦ same | inr differ ↦ absurd (h differ) ]
