-- Which instructions were removed, inserted and changed where a function became another.
use Rattle.std.specs.Prelude.{◌≡◌, ℕ, ◌⊎◌, Option, None, Some, option_map, Contains}
use Rattle.ir_core.specs.Blocks.{HasInst}
use Rattle.ir_core.specs.Checks.{IsInst}
use Rattle.ir_core.specs.declared.function.Function.{Function}
use Rattle.ir_core.specs.declared.instruction.Inst.{Inst}
use Rattle.ir_core.specs.declared.instruction.Op.{Op}
use Rattle.ir_core.specs.declared.operand.Operand.TheVariants as operands
use Rattle.ir_core.specs.declared.operand.Register.{Register}
use Rattle.ir_core.specs.declared.operand.Register.TheVariants as registers
use Rattle.needed.specs.Operands.{operands_of}
use Rattle.substitution.specs.Substitution.{Substitution, substituted_op}
use Rattle.changes.specs.Places.{AreAscending}
use Rattle.changes.specs.declared.changed.Changes.{Changes}

-- for instruction k of block b its new place in that block, if it stays
abbrev pub Moves : Type 0
Moves = ℕ → ℕ → Option ℕ

-- the new name of a register: for a result by the new place of its instruction, and for a parameter as before
abbrev pub register_then : Moves → Register → Option Register
register_then moves (registers.Parameter p) = Some (registers.Parameter p)
register_then moves (registers.Result b k) = option_map (registers.Result b) (moves b k)

-- The new operation is the old one, with the new name of each register that it reads. So what reads a register whose
-- instruction was removed isn't the same.
pub record IsSame (moves : Moves) (old new : Op) : Type 0 where
  pub to : Substitution
  pub called : (r : Register) → Contains (operands_of old) (operands.Register r) → option_map operands.Register (register_then moves r) ≡ Some (to r)
  pub is : new ≡ substituted_op to old

module _ (f new : Function) (moves : Moves) where
  -- instruction k of block b stays, and its new place is l
  abbrev pub StaysAt : ℕ → ℕ → ℕ → Type 0
  StaysAt b k l = HasInst f b k × (moves b k ≡ Some l)

  abbrev pub Went : ℕ → ℕ → Type 0
  Went b k = HasInst f b k × (moves b k ≡ None)

  abbrev pub Came : ℕ → ℕ → Type 0
  Came b l = HasInst new b l × ¬ ((k : ℕ) × StaysAt b k l)

  -- instruction k of block b and that at its new place l compute the same
  abbrev pub IsUnchanged : ℕ → ℕ → ℕ → Type 0
  IsUnchanged b k l = (old : Inst) × (now : Inst) × IsInst f b k old × IsInst new b l now × IsSame moves old.op now.op

  -- an instruction that stays is written anew, or computes something else
  abbrev pub IsChanged : (ℕ → ℕ → Type 0) → ℕ → ℕ → Type 0
  IsChanged IsAnew b l = (k : ℕ) × StaysAt b k l × (IsAnew b k ⊎ ¬ IsUnchanged b k l)

-- The lists of what was removed, inserted and changed, where instructions move so and some are written anew.
pub record AreChanges (f new : Function) (moves : Moves) (IsAnew : ℕ → ℕ → Type 0) (changes : Changes) : Type 0 where
  pub went : AreAscending (Went f new moves) changes.went
  pub came : AreAscending (Came f new moves) changes.came
  pub changed : AreAscending (IsChanged f new moves IsAnew) changes.changed
