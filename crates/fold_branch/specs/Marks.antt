-- Marks of blocks, and the blocks for which phis have entries.
use Rattle.std.specs.Prelude.{◌≡◌, ◌<◌, ℕ, Bool, true, false, List, All, Contains, slice_index_or}
use Rattle.ir_core.specs.declared.instruction.Inst.{Inst}
use Rattle.ir_core.specs.declared.instruction.Op.{Op}
use Rattle.ir_core.specs.declared.instruction.Op.TheVariants.{Binary, Compare, Unary, Select, Convert, Freeze, Phi}
use Rattle.ir_core.specs.declared.operand.Operand.{Operand}

-- the block is marked
abbrev pub IsMarked : List Bool → ℕ → Type 0
IsMarked marks b = slice_index_or marks b false ≡ true

-- no block is
abbrev pub NoneIsMarked : List Bool → Type 0
NoneIsMarked marks = (b : ℕ) → slice_index_or marks b false ≡ false

-- some entry is for the block
abbrev pub HasEntry : List (Operand × ℕ) → ℕ → Type 0
HasEntry entries b = (a : Operand) × Contains entries (a, b)

-- the entries are for blocks below a number
abbrev pub AreBelow : ℕ → List (Operand × ℕ) → Type 0
AreBelow count entries = All (λ e. e.1 < count) entries

-- so are those of a phi
abbrev pub EntriesAreBelow : ℕ → Op → Type 0
EntriesAreBelow count (Phi entries) = AreBelow count entries
EntriesAreBelow count (Binary op flags x y) = Unit {0}
EntriesAreBelow count (Compare pred samesign width x y) = Unit {0}
EntriesAreBelow count (Unary op truth x) = Unit {0}
EntriesAreBelow count (Select c x y) = Unit {0}
EntriesAreBelow count (Convert cast flags from x) = Unit {0}
EntriesAreBelow count (Freeze x) = Unit {0}

-- and those of each phi among these
abbrev pub AllAreBelow : ℕ → List Inst → Type 0
AllAreBelow count insts = All (λ i. EntriesAreBelow count i.op) insts
