-- Use counts over a part of a function's operands: those that the pass has come to so far.
use Rattle.std.specs.Prelude.{◌≡◌, ℕ, ◌+◌, ◌↔◌, List, length, AllPairs, Contains, slice_set, slice_index_or}
use Rattle.ir_core.specs.Checks.{IsKnown}
use Rattle.ir_core.specs.declared.function.Function.{Function}
use Rattle.ir_core.specs.declared.operand.Operand.{Operand}
use Rattle.ir_core.specs.declared.operand.Operand.TheVariants as operands
use Rattle.ir_core.specs.declared.operand.Register.{Register}
use Rattle.use_counts.specs.Uses.{IsNamedAt, UsePlace, StandsBefore}
use Rattle.use_counts.specs.Tables.{HasNumber, count_of}
use Rattle.use_counts.specs.declared.uses.Uses.{Uses}

-- these are all places at which the register is named and P holds, in order
pub record AreUsesAmong (f : Function) (register : Register) (P : ℕ → ℕ → ℕ → Type 0) (places : List UsePlace) : Type 0 where
  pub in_order : AllPairs StandsBefore places
  pub each : (b k i : ℕ) → Contains places (b, k, i) ↔ (IsNamedAt f register b k i × P b k i)

abbrev pub IsCountAmong : Function → Register → (ℕ → ℕ → ℕ → Type 0) → ℕ → Type 0
IsCountAmong f register P n = (places : List UsePlace) × AreUsesAmong f register P places × (length places ≡ n)

-- the table has a number for each register of the function, and its number for a register is how many operands name it
-- at places of which P holds
pub record AreCountsAmong (f : Function) (P : ℕ → ℕ → ℕ → Type 0) (uses : Uses) : Type 0 where
  pub there : (register : Register) → IsKnown f (operands.Register register) → HasNumber uses register
  pub exact : (register : Register) → IsCountAmong f register P (count_of uses register)

-- the row with the number at index k raised by one
abbrev pub one_more : List ℕ → ℕ → List ℕ
one_more row k = slice_set row k (slice_index_or row k 0 + 1)

-- if the operand is a register, its number goes up by one; the numbers of all other registers stay
pub record IsCounted (operand : Operand) (old new : Uses) : Type 0 where
  pub there : (register : Register) → HasNumber old register → HasNumber new register
  pub named : (register : Register) → operand ≡ operands.Register register → count_of new register ≡ count_of old register + 1
  pub others : (register : Register) → ¬ (operand ≡ operands.Register register) → count_of new register ≡ count_of old register
