-- Functions that are kept as an arena and, for each block, the numbers of the instructions that stand there, in order.
use Rattle.std.specs.Prelude.{◌≡◌, ℕ, ◌<◌, List, [], length, Some, Contains, slice_get, slice_index_or}
use Rattle.ir_core.specs.Blocks.{HasInst}
use Rattle.ir_core.specs.Checks.{IsInst}
use Rattle.ir_core.specs.Reads.{Read, IsRead}
use Rattle.ir_core.specs.declared.function.Function.{Function}
use Rattle.ir_core.specs.declared.instruction.Inst.{Inst}
use Rattle.ir_core.specs.declared.operand.Operand.{Operand}
use Rattle.ir_core.specs.declared.operand.Operand.TheVariants as operands
use Rattle.ir_core.specs.declared.operand.Register.{Register}
use Rattle.ir_core.specs.declared.operand.Register.TheVariants as registers
use Rattle.substitution.specs.Substitution.{substituted_operand}
use Rattle.bindings.specs.Known.{Knowledge, known_in}
use Rattle.draft.specs.Drafts.{placed, blocks_of}
use Rattle.places.specs.Orders.{place_in}

-- the numbers of the instructions that stand in a block, in order
abbrev pub row_of : List (List ℕ) → ℕ → List ℕ
row_of rows b = slice_index_or rows b []

-- Each number in the row of a block is that of an instruction, and is there once. An instruction that reads a register
-- stands, and so does one whose result is read.
pub record AreArranged (arena : Function) (rows : List (List ℕ)) : Type 0 where
  pub as_many : length rows ≡ length arena.blocks
  pub there : (b n : ℕ) → Contains (row_of rows b) n → HasInst arena b n
  pub once : (b k n : ℕ) → slice_get (row_of rows b) k ≡ Some n → place_in (row_of rows b) n ≡ k
  pub readers_stand : (b n i : ℕ) (inst : Inst) (r : Read) (register : Register) → IsInst arena b n inst → IsRead arena b n i r
      → r.operand ≡ operands.Register register → Contains (row_of rows b) n
  pub read_stands : (b k i c n : ℕ) (r : Read) → IsRead arena b k i r → r.operand ≡ operands.Register (registers.Result c n) → Contains (row_of rows c) n

-- the function of the arena and these rows
abbrev pub arranged : Function → List (List ℕ) → Function
arranged arena rows = record { name = arena.name; before = arena.before; width = arena.width; parameters = arena.parameters; after = arena.after; blocks = blocks_of (placed rows) rows arena.blocks }

-- What is known at instruction n of block b is known at its position in the function, of each operand that is no result
-- of the block, or one of an instruction that stands before it.
abbrev pub KnowsTheFunction : Function → List (List ℕ) → Knowledge → ℕ → ℕ → Type 0
KnowsTheFunction arena rows known b n = (x : Operand)
    → ((m : ℕ) → x ≡ operands.Register (registers.Result b m) → Contains (row_of rows b) m × (place_in (row_of rows b) m < place_in (row_of rows b) n))
    → known b n x ≡ known_in (arranged arena rows) b (place_in (row_of rows b) n) (substituted_operand (placed rows) x)
