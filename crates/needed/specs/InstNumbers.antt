-- The instructions of a function, numbered from 0 block after block.
use Rattle.std.specs.Prelude.{◌≡◌, ℕ, ◌+◌, ◌<◌, Bool, false, List, length, take, sum_by, All, slice_index_or}
use Rattle.ir_core.specs.declared.function.Block.{Block}
use Rattle.ir_core.specs.declared.instruction.Inst.{Inst}
use Rattle.ir_core.specs.declared.operand.Operand.{Operand}
use Rattle.ir_core.specs.declared.operand.Operand.TheVariants as operands
use Rattle.ir_core.specs.declared.operand.Register.TheVariants as registers
use Rattle.needed.specs.KeptFunction.{KeptMarks}
use Rattle.needed.specs.Operands.{operands_of, operands_at_end}

-- how many instructions the blocks before block b have together
abbrev pub insts_before : List Block → ℕ → ℕ
insts_before blocks b = sum_by (λ block. length block.insts) (take b blocks)

-- for each block, the number of its first instruction; and how many instructions there are
pub record AreNumbers (blocks : List Block) (firsts : List ℕ) (count : ℕ) : Type 0 where
  pub blocks_count : length firsts ≡ length blocks
  pub at : (b : ℕ) → b < length blocks → slice_index_or firsts b 0 ≡ insts_before blocks b
  pub all : count ≡ insts_before blocks (length blocks)

-- the number of instruction k of block b
abbrev pub number_of : List ℕ → ℕ → ℕ → ℕ
number_of firsts b k = slice_index_or firsts b 0 + k

-- a table of marks by number, as a function of block and place
abbrev pub marks_by : List ℕ → List Bool → KeptMarks
marks_by firsts marks b k = slice_index_or marks (number_of firsts b k) false

-- if the operand is the result of an instruction, that has a number below the count
abbrev pub IsNumbered : List ℕ → ℕ → Operand → Type 0
IsNumbered firsts count (operands.Register (registers.Result b k)) = (b < length firsts) × (number_of firsts b k < count)
IsNumbered firsts count (operands.Register (registers.Parameter p)) = Unit {0}
IsNumbered firsts count (operands.Number n) = Unit {0}
IsNumbered firsts count operands.Undef = Unit {0}
IsNumbered firsts count operands.Poison = Unit {0}

-- so has each operand of a block's instructions and terminator
pub record BlockIsNumbered (firsts : List ℕ) (count : ℕ) (block : Block) : Type 0 where
  pub insts : All (λ (i : Inst). All (IsNumbered firsts count) (operands_of i.op)) block.insts
  pub end : All (IsNumbered firsts count) (operands_at_end block.end)
