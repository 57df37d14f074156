-- Chains of operands inside a block, or across blocks.
use Rattle.draft_steps.proofs.Common.{◌≡◌, inl, inr, ℕ, zero, suc, ◌≤◌, Bool, refl, sym, subst, arith, Read, IsRead, Draft, IsInScope, Reaches, Stands, arena_of}
use Rattle.ir_core.specs.declared.operand.Operand.TheVariants as operands
use Rattle.ir_core.specs.declared.operand.Register.TheVariants as registers

module _ (across : Bool) (d : Draft) where
  pub itself : (t b n : ℕ) → Reaches across d t b n b n
  itself zero b n = (refl, refl)
  itself (suc t) b n = inl (refl, refl)

  from_same : (t b n c p e q : ℕ) → (b ≡ c) × (n ≡ p) → Reaches across d t c p e q → Reaches across d t b n e q
  from_same t b n c p e q here reaches = subst (λ (x : ℕ). Reaches across d t x n e q) (sym here.0) (subst (λ (y : ℕ). Reaches across d t c y e q) (sym here.1) reaches)

  -- a chain with one operand more
  pub and_on : (t b n c p e q i : ℕ) (r : Read) → Reaches across d t b n c p → Stands d c p → IsRead (arena_of d) c p i r → r.operand ≡ operands.Register (registers.Result e q) → IsInScope across e q c p → Reaches across d (suc t) b n e q
  and_on zero b n c p e q i r here stands is_read reads scope = from_same (suc zero) b n c p e q here (inr (e, q, i, r, stands, is_read, reads, scope, (refl, refl)))
  and_on (suc t) b n c p e q i r come stands is_read reads scope = elim come [
    | inl here ↦ from_same (suc (suc t)) b n c p e q here (inr (e, q, i, r, stands, is_read, reads, scope, itself (suc t) e q))
    | inr first ↦ inr (first.0, first.1, first.2, first.3, first.4, first.5, first.6, first.7, and_on t first.0 first.1 c p e q i r first.8 stands is_read reads scope)
  ]

  -- a chain is one of at most more operands too
  pub within_more : (t s b n c p : ℕ) → t ≤ s → Reaches across d t b n c p → Reaches across d s b n c p
  within_more zero zero b n c p less here = here
  within_more zero (suc s) b n c p less here = inl here
  within_more (suc t) zero b n c p less come = absurd (omega (arith, less))
  within_more (suc t) (suc s) b n c p less come = elim come [
    | inl here ↦ inl here
    | inr first ↦ inr (first.0, first.1, first.2, first.3, first.4, first.5, first.6, first.7, within_more t s first.0 first.1 c p (omega (arith, less)) first.8)
  ]
