-- How many operands name a register.
use Rattle.std.specs.Prelude.{◌≡◌, ◌↔◌, ℕ, ◌+◌, Bool, false, List, map, Option, None, Some, Contains, count_by, sum_by}
use Rattle.ir_core.specs.Reads.{reads_at}
use Rattle.ir_core.specs.declared.function.Block.{Block}
use Rattle.ir_core.specs.declared.function.Function.{Function}
use Rattle.ir_core.specs.declared.operand.Operand.{Operand}
use Rattle.ir_core.specs.declared.operand.Operand.TheVariants as operands
use Rattle.ir_core.specs.declared.operand.Register.{Register}
use Rattle.needed.specs.Operands.{operands_of, operands_at_end}
use Rattle.use_counts.specs.Tables.{HasNumber, count_of}
use Rattle.use_counts.specs.declared.uses.Uses.{Uses}
use Rattle.readers.specs.Changes.{same_register}
use Rattle.readers.specs.Readers.{arena_place}
use Rattle.places.specs.declared.place.Place.{Place}

-- the operands that are read at a place of the arena
abbrev pub operands_at : Function → Place → List Operand
operands_at f p = map (λ r. r.operand) (reads_at f p.block (arena_place f p))

abbrev pub register_of : Operand → Option Register
register_of (operands.Register r) = Some r
register_of (operands.Number n) = None
register_of operands.Undef = None
register_of operands.Poison = None

-- the operand is the register
abbrev pub names : Register → Operand → Bool
names r (operands.Register s) = same_register r s
names r (operands.Number n) = false
names r operands.Undef = false
names r operands.Poison = false

-- how many of these operands are the register
abbrev pub times : Register → List Operand → ℕ
times r reads = count_by (names r) reads

-- how many operands of a block are the register, and how many of a function
abbrev pub times_in : Register → Block → ℕ
times_in r block = sum_by (λ inst. times r (operands_of inst.op)) block.insts + times r (operands_at_end block.end)

abbrev pub times_in_function : Register → Function → ℕ
times_in_function r f = sum_by (times_in r) f.blocks

-- the count for one register is n, and all others stay
pub record IsSetTo (register : Register) (n : ℕ) (old new : Uses) : Type 0 where
  pub there : (r : Register) → HasNumber old r ↔ HasNumber new r
  pub is : count_of new register ≡ n
  pub others : (r : Register) → ¬ (r ≡ register) → count_of new r ≡ count_of old r

-- the table has a count for each register among these operands
abbrev pub HasNumbers : Uses → List Operand → Type 0
HasNumbers uses reads = (r : Register) → Contains reads (operands.Register r) → HasNumber uses r

-- the count of each register is greater by how often it is among these operands
pub record AreCounted (reads : List Operand) (old new : Uses) : Type 0 where
  pub there : (r : Register) → HasNumber old r ↔ HasNumber new r
  pub more : (r : Register) → count_of new r ≡ count_of old r + times r reads
