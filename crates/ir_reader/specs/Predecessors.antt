-- Sets of predecessors, one for each block, and phis that fit such a set.
use Rattle.std.specs.Prelude.{◌≡◌, ◌↔◌, ◌⊎◌, ℕ, ◌<◌, List, length, nat_eq, IsTrue, Some, Contains, slice_get}
use Rattle.indexmap.specs.IndexSet.{IndexSet, contains}
use Rattle.ir_core.specs.declared.function.Function.{Function}
use Rattle.ir_core.specs.declared.function.Block.{Block}
use Rattle.ir_core.specs.declared.instruction.Inst.{Inst}
use Rattle.ir_core.specs.declared.instruction.Op.{Op}
use Rattle.ir_core.specs.declared.instruction.Op.TheVariants.{Binary, Compare, Unary, Select, Convert, Freeze, Phi}
use Rattle.ir_core.specs.declared.operand.Operand.{Operand}
use Rattle.ir_core.specs.Checks.{IsPhi}
use Rattle.ir_tokens.specs.declared.raw.RawInst.{RawInst}
use Rattle.ir_core.specs.Blocks.{targets_of, Names}

module _ {S : Type 0} where
  -- the set of block c has block b
  abbrev pub Holds : List (IndexSet ℕ S) → ℕ → ℕ → Type 0
  Holds sets c b = (set : IndexSet ℕ S) × (slice_get sets c ≡ Some set) × IsTrue (contains nat_eq set b)

  -- this block was added to the sets of the targets
  pub record AddsTo (before after : List (IndexSet ℕ S)) (block : ℕ) (targets : List ℕ) : Type 0 where
    pub count : length after ≡ length before
    pub holds : (c b : ℕ) → Holds after c b ↔ (Holds before c b ⊎ ((b ≡ block) × Contains targets c))

  -- each of these blocks was added to the sets of those that its terminator names
  pub record AddsOf (before after : List (IndexSet ℕ S)) (blocks : List Block) : Type 0 where
    pub count : length after ≡ length before
    pub holds : (c b : ℕ) → Holds after c b ↔ (Holds before c b ⊎ ((block : Block) × (slice_get blocks b ≡ Some block) × Contains (targets_of block.end) c))

  -- each block's set has exactly its predecessors
  pub record ArePredecessors (f : Function) (sets : List (IndexSet ℕ S)) : Type 0 where
    pub count : length sets ≡ length f.blocks
    pub holds : (c b : ℕ) → Holds sets c b ↔ Names f b c

  -- the entries have exactly one operand for each block of the set, and none for another
  pub record EntriesFitIn (set : IndexSet ℕ S) (entries : List (Operand × ℕ)) : Type 0 where
    pub from : (c : ℕ) → ((a : Operand) × Contains entries (a, c)) ↔ IsTrue (contains nat_eq set c)
    pub one : (x y : Operand) (c : ℕ) → Contains entries (x, c) → Contains entries (y, c) → x ≡ y

  -- if the instruction is a phi, it may stand there and its entries fit the set
  abbrev pub OpFitsIn : IndexSet ℕ S → Type 0 → Op → Type 0
  OpFitsIn set may_stand (Phi entries) = may_stand × EntriesFitIn set entries
  OpFitsIn set may_stand (Binary op flags x y) = Unit {0}
  OpFitsIn set may_stand (Compare pred samesign width x y) = Unit {0}
  OpFitsIn set may_stand (Unary op truth x) = Unit {0}
  OpFitsIn set may_stand (Select c x y) = Unit {0}
  OpFitsIn set may_stand (Convert cast flags from x) = Unit {0}
  OpFitsIn set may_stand (Freeze x) = Unit {0}

-- the first k instructions are phis
abbrev pub FirstArePhis : List Inst → ℕ → Type 0
FirstArePhis insts k = (j : ℕ) (earlier : Inst) → j < k → slice_get insts j ≡ Some earlier → IsPhi earlier.op

-- instruction k of a block is a phi that doesn't fit, and its register is on the line
abbrev pub BadPhiIn : {S : Type 0} → IndexSet ℕ S → List RawInst → List Inst → ℕ → ℕ → Type 0
BadPhiIn set written insts k line =
    ((inst : Inst) × (slice_get insts k ≡ Some inst) × ¬ OpFitsIn set (FirstArePhis insts k) inst.op)
    × ((w : RawInst) × (slice_get written k ≡ Some w) × (w.result.line ≡ line))
