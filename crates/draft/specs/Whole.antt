-- The invariant of drafts: what the tables say of the arena.
use Rattle.std.specs.Prelude.{◌≡◌, ℕ, ◌<◌, ◌≤◌, ◌^◌, Bool, false, IsFalse, List, [], length, Some, Contains, slice_get, slice_index_or}
use Rattle.ir_core.specs.Blocks.{IsBlock}
use Rattle.ir_core.specs.Checks.{IsInst, IsKnown, IsPhi}
use Rattle.ir_core.specs.Reads.{Read, IsRead}
use Rattle.ir_core.specs.Walks.{IsReached}
use Rattle.ir_core.specs.declared.function.Block.{Block}
use Rattle.ir_core.specs.declared.function.Function.{Function}
use Rattle.ir_core.specs.declared.instruction.Inst.{Inst}
use Rattle.ir_core.specs.declared.instruction.Op.TheVariants.{Freeze}
use Rattle.ir_core.specs.declared.operand.Operand.TheVariants as operands
use Rattle.ir_core.specs.declared.operand.Register.TheVariants as registers
use Rattle.bindings.specs.Facts.{AreFactsOf}
use Rattle.draft.specs.declared.draft.Draft.{Draft}
use Rattle.places.specs.declared.place.Place.{Place}
use Rattle.draft.specs.Drafts.{Stands}
use Rattle.places.specs.Orders.{none}
use Rattle.draft.specs.Placing.{IsOrdering}
use Rattle.readers.specs.Readers.{AreReadersOf, IsPlaceIn, IsReader}

-- The order of a block has the number of each of its instructions once, of removed ones too, and there is a flag for
-- each. A removed instruction reads no register.
pub record AreRowsOf (block : Block) (order : List ℕ) (stand : List Bool) : Type 0 where
  pub few : length block.insts ≤ none
  pub ordered : length order ≡ length block.insts
  pub marked : length stand ≡ length block.insts
  pub all : (n : ℕ) → n < length block.insts → Contains order n
  pub ordering : IsOrdering (length block.insts) order
  pub gone : (n : ℕ) (inst : Inst) → slice_get block.insts n ≡ Some inst → slice_index_or stand n false ≡ false → inst.op ≡ Freeze operands.Poison

-- there is no phi
abbrev pub HasNoPhi : Function → Type 0
HasNoPhi f = (b k : ℕ) (inst : Inst) → IsInst f b k inst → ¬ IsPhi inst.op

-- There is no phi, and each block is reached. So def-use chains have no cycles where a function meets its checks.
pub record HasNoCycles (f : Function) : Type 0 where
  pub reached : (b : ℕ) → b < length f.blocks → IsReached f b
  pub no_phi : HasNoPhi f

-- The tables fit the arena: there is an order and a row of flags for each block, counts of uses are exact, and use
-- lists complete. Operands are known to the arena, but may name results of removed instructions.
pub record IsWhole (d : Draft) : Type 0 where
  pub few : length d.arena.blocks < 2 ^ 32
  pub ordered : length d.orders.items ≡ length d.arena.blocks
  pub marked : length d.stand.items ≡ length d.arena.blocks
  pub rows : (b : ℕ) (block : Block) → IsBlock d.arena b block → AreRowsOf block (slice_index_or d.orders.items b []) (slice_index_or d.stand.items b [])
  pub known : (b k i : ℕ) (r : Read) → IsRead d.arena b k i r → IsKnown d.arena r.operand
  pub facts : AreFactsOf d.arena d.facts
  pub readers : AreReadersOf d.arena d.readers
  pub cycles : IsFalse d.has_cycles → HasNoCycles d.arena

-- A draft between steps: each result that is read is that of an instruction that stands, and the worklist of dead code
-- elimination is empty.
pub record IsSettled (d : Draft) : Type 0 where
  pub whole : IsWhole d
  pub read_stands : (b n : ℕ) (p : Place) → IsPlaceIn d.arena p → IsReader d.arena (registers.Result b n) p → Stands d b n
  pub none_fell : d.dead_candidates.items ≡ []
