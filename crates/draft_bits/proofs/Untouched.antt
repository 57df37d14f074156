-- What is known at an instruction stays known where what it reads keeps its bits.
use Rattle.draft_bits.proofs.Common.{◌≡◌, ℕ, List, inl, inr, refl, sym, ap, eq-eqb, ne_eqb, Contains, unwrap_or, cases_eq, unknown, known_of, known_by, facts_at, DraftBits, HasSameBits, KnowsTheUntouched, Stands, Draft, Place}
use Rattle.ir_core.specs.declared.operand.Operand.TheVariants as operands
use Rattle.ir_core.specs.declared.operand.Register.TheVariants as registers

pub still_known : (was now : DraftBits) (new : Draft) (changed : List Place) (b n : ℕ) → (facts_at was b).block ≡ b → (facts_at now b).block ≡ b
    → ((m : ℕ) → Stands new b m → ¬ Contains changed (record { block = b; number = m }) → HasSameBits was now b m) → KnowsTheUntouched (known_by (facts_at was b)) (known_by (facts_at now b)) new changed b n
still_known was now new changed b n block_was block_now same (operands.Number a) untouched = refl
still_known was now new changed b n block_was block_now same operands.Undef untouched = refl
still_known was now new changed b n block_was block_now same operands.Poison untouched = refl
still_known was now new changed b n block_was block_now same (operands.Register (registers.Parameter p)) untouched = refl
still_known was now new changed b n block_was block_now same (operands.Register (registers.Result c m)) untouched = elim (cases_eq c b) [
  | inr other ↦ rw (block_was, block_now, ne_eqb c b other) refl
  | inl here ↦
      let away = untouched m (ap (λ (d : ℕ). operands.Register (registers.Result d m)) here) in
      let entry = same m away.0 away.1 in
      rw (block_was, block_now, here, eq-eqb b b refl) (ap (λ o. known_of (unwrap_or o (unknown 0))) (sym entry))
]
