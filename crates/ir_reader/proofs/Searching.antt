-- The least number of which a decidable statement holds.
use Rattle.ir_reader.proofs.Common.{◌⊎◌, inl, inr, ℕ, zero, suc, ◌<◌, sym, subst, arith, cases_eq}

abbrev pub Least : (ℕ → Type 0) → Type 0
Least P = (m : ℕ) × P m × ((j : ℕ) → j < m → ¬ P j)

search_below : (P : ℕ → Type 0) → ((m : ℕ) → Dec (P m)) → (n : ℕ) → Least P ⊎ ((m : ℕ) → m < n → ¬ P m)
search_below P each zero = inr (λ m lt. absurd (omega arith))
search_below P each (suc n) = elim (search_below P each n) [
  | inl found ↦ inl found
  | inr none ↦ elim (each n) [
    | yes p ↦ inl (n, p, none)
    | no h ↦ inr (λ m lt. elim (cases_eq m n) [ inl is ↦ subst (λ k. ¬ P k) (sym is) h | inr apart ↦ none m (omega (arith, apart)) ])
  ]
]

pub dec_below : (P : ℕ → Type 0) → ((m : ℕ) → Dec (P m)) → (n : ℕ) → ((m : ℕ) → P m → m < n) → Dec ((m : ℕ) × P m)
dec_below P each n within = elim (search_below P each n) [ inl (m, p, first) ↦ yes (m, p) | inr none ↦ no (λ (m, p). none m (within m p) p) ]

pub least : (P : ℕ → Type 0) → ((m : ℕ) → Dec (P m)) → (m : ℕ) → P m → Least P
least P each m p = elim (search_below P each (suc m)) [ inl found ↦ found | inr none ↦ absurd (none m (omega arith) p) ]
