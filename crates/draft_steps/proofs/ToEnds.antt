-- What leads to a terminator is live.
use Rattle.draft_steps.proofs.Common.{◌≡◌, ℕ, inl, inr, refl, IsKnown, Function, Register, Stands, IsWhole, Draft, stands_there, none, Place, IsPlaceIn, has_known}
use Rattle.ir_core.specs.declared.operand.Operand.TheVariants as operands
use Rattle.ir_core.specs.declared.operand.Register.TheVariants as registers

-- a place that is not a terminator's has a register
pub inst_known : (f : Function) (p : Place) → IsPlaceIn f p → ¬ (p.number ≡ none) → IsKnown f (operands.Register (registers.Result p.block p.number))
inst_known f p (block, at, inl within) inst = has_known f p.block p.number (block, at, within)
inst_known f p (block, at, inr end) inst = absurd (inst end)

-- a result of an instruction that stands is known
pub standing_known : (d : Draft) (r : Register) → IsWhole d → ((b n : ℕ) → r ≡ registers.Result b n → Stands d b n) → ((p : ℕ) → ¬ (r ≡ registers.Parameter p)) → IsKnown d.arena (operands.Register r)
standing_known d (registers.Parameter p) whole stands other = absurd (other p refl)
standing_known d (registers.Result b n) whole stands other = has_known d.arena b n (stands_there d whole b n (stands b n refl))
