-- Ascending lists of places, one place after another.
use Rattle.changes.proofs.Common.{◌≡◌, ◌⊎◌, inl, inr, ℕ, List, [], ◌∷◌, ◌++◌, get_or, sym, subst, arith, Contains, Contains-append_left, Contains-push, Contains-push_cases, Contains-get_or, all_pairs_push, StandsBefore, AreAscending}

nothing_in_nil : (x : ℕ × ℕ) → Contains {X = ℕ × ℕ} [] x → ⊥
nothing_in_nil x (k, within, is) = absurd (omega arith)

pub none_listed : (P : ℕ → ℕ → Type 0) → ((b k : ℕ) → P b k → ⊥) → AreAscending P []
none_listed P none = record {
  in_order = λ i j d less within. absurd (omega arith);
  each = λ b k. (λ there. absurd (nothing_in_nil (b, k) there), λ p. absurd (none b k p));
}

pub same_listed : (P Q : ℕ → ℕ → Type 0) (places : List (ℕ × ℕ)) → ((b k : ℕ) → P b k → Q b k) → ((b k : ℕ) → Q b k → P b k) → AreAscending P places → AreAscending Q places
same_listed P Q places to back are = record {
  in_order = are.in_order;
  each = λ b k. (λ there. to b k ((are.each b k).0 there), λ q. (are.each b k).1 (back b k q));
}

-- one more place, behind all that are listed
pub one_more : (P Q : ℕ → ℕ → Type 0) (places new : List (ℕ × ℕ)) (c n : ℕ) → new ≡ places ++ (c, n) ∷ [] → AreAscending P places
    → ((b k : ℕ) → P b k → StandsBefore (b, k) (c, n)) → ((b k : ℕ) → P b k → Q b k) → Q c n → ((b k : ℕ) → Q b k → P b k ⊎ ((b ≡ c) × (k ≡ n))) → AreAscending Q new
one_more P Q places new c n is are before still here split = subst (λ (l : List (ℕ × ℕ)). AreAscending Q l) (sym is) (record {
  in_order = all_pairs_push StandsBefore places (c, n) are.in_order (λ m d within. stands (get_or places m d) (Contains-get_or places m d within));
  each = λ b k. (
    λ there. elim (Contains-push_cases places (c, n) (b, k) there) [
      | inl older ↦ still b k ((are.each b k).0 older)
      | inr same ↦ subst (λ (z : ℕ × ℕ). Q z.0 z.1) same here
    ],
    λ q. elim (split b k q) [
      | inl older ↦ Contains-append_left places ((c, n) ∷ []) (b, k) ((are.each b k).1 older)
      | inr (eb, ek) ↦
          let same : (c, n) ≡ (b, k) = cc in
          subst (λ (z : ℕ × ℕ). Contains (places ++ (c, n) ∷ []) z) same (Contains-push places (c, n))
    ],
  );
})
  where
    stands : (z : ℕ × ℕ) → Contains places z → StandsBefore z (c, n)
    stands (b, k) there = before b k ((are.each b k).0 there)
