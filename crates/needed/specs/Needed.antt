-- Which registers of a function are needed: those that are live, in that a terminator depends on them.
use Rattle.std.specs.Prelude.{◌≡◌, ℕ}
use Rattle.ir_core.specs.declared.function.Function.{Function}
use Rattle.ir_core.specs.declared.operand.Operand.TheVariants as operands
use Rattle.ir_core.specs.declared.operand.Register.{Register}
use Rattle.ir_core.specs.declared.operand.Register.TheVariants as registers
use Rattle.ir_core.specs.Reads.{Read, IsRead, end_of}

-- the instruction or the terminator at place k of block b has the register as an operand; those of a phi count at the
-- phi's own place
pub record ReadsRegister (f : Function) (b k : ℕ) (register : Register) : Type 0 where
  pub operand : ℕ
  pub read : Read
  pub is_read : IsRead f b k operand read
  pub reads : read.operand ≡ operands.Register register

-- A register is needed where the terminator of any block reads it, whether a run comes to the block or not, or the
-- instruction of a needed register does.
pub data IsNeeded (f : Function) : Register → Type 0 where
  by_end : (b : ℕ) {register : Register} → ReadsRegister f b (end_of f b) register → IsNeeded f register
  by_inst : (b k : ℕ) {register : Register} → IsNeeded f (registers.Result b k) → ReadsRegister f b k register → IsNeeded f register
