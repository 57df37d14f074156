-- Tables of how often registers are used.
use Rattle.std.specs.Prelude.{ℕ, ◌<◌, [], length, slice_index_or}
use Rattle.ir_core.specs.Checks.{IsKnown}
use Rattle.ir_core.specs.declared.function.Function.{Function}
use Rattle.ir_core.specs.declared.operand.Operand.TheVariants as operands
use Rattle.ir_core.specs.declared.operand.Register.{Register}
use Rattle.ir_core.specs.declared.operand.Register.TheVariants as registers
use Rattle.use_counts.specs.Uses.{IsUseCount}
use Rattle.use_counts.specs.declared.uses.Uses.{Uses}

-- the table has a number for the register
abbrev pub HasNumber : Uses → Register → Type 0
HasNumber uses (registers.Parameter p) = p < length uses.parameters
HasNumber uses (registers.Result b k) = k < length (slice_index_or uses.results.items b [])

-- that number, and 0 where there is none
abbrev pub count_of : Uses → Register → ℕ
count_of uses (registers.Parameter p) = slice_index_or uses.parameters p 0
count_of uses (registers.Result b k) = slice_index_or (slice_index_or uses.results.items b []) k 0

-- the table has a number for each register of the function, and its number for a register is how many operands name it
pub record AreCounts (f : Function) (uses : Uses) : Type 0 where
  pub there : (register : Register) → IsKnown f (operands.Register register) → HasNumber uses register
  pub exact : (register : Register) → IsUseCount f register (count_of uses register)
