-- A register has exactly one use where another one has, whose uses are at the same places.
use Rattle.draft_steps.proofs.Common.{◌≡◌, ℕ, subst, Function, Register, IsNamedAt, IsUsedOnce}

module _ (f f' : Function) (r s : Register) (Same : ℕ → ℕ → ℕ → Type 0)
    (on : (b k i : ℕ) → IsNamedAt f r b k i → (q : ℕ) × Same b k q × IsNamedAt f' s b q i)
    (back : (b q i : ℕ) → IsNamedAt f' s b q i → (k : ℕ) × Same b k q × IsNamedAt f r b k i)
    (one : (b k p q : ℕ) → Same b k p → Same b k q → p ≡ q) where
  pub once_on : IsUsedOnce f r → IsUsedOnce f' s
  once_on u =
      let (there, same, named) = on u.block u.place u.operand u.there in
      record {
        block = u.block;
        place = there;
        operand = u.operand;
        there = named;
        only_there = λ b q i h.
            let (k, here, was) = back b q i h in
            let only = u.only_there b k i was in
            let block : b ≡ u.block = only.0 in
            let moved : Same u.block u.place q = subst (λ (c : ℕ). Same c u.place q) block (subst (λ (x : ℕ). Same b x q) only.1 here) in
            (block, one u.block u.place q there moved same, only.2);
      }
