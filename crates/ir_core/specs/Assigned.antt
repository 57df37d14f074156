-- Where a register has a value on every path from the entry (LangRef, "Well-Formedness", which says it by dominance).
use Rattle.std.specs.Prelude.{◌≡◌, ℕ, ◌<◌, ◌⊎◌, List, ◌∷◌, length, Contains}
use Rattle.ir_core.specs.declared.function.Function.{Function}
use Rattle.ir_core.specs.declared.operand.Operand.TheVariants as operands
use Rattle.ir_core.specs.declared.operand.Register.{Register}
use Rattle.ir_core.specs.declared.operand.Register.TheVariants as registers
use Rattle.ir_core.specs.Blocks.{HasInst}
use Rattle.ir_core.specs.Reads.{Read, IsRead}
use Rattle.ir_core.specs.Walks.{IsWalk}

-- A register is assigned at place k of block b if the function has it and every walk there has passed its definition,
-- in an earlier block of the walk or in this one before the place. Parameters are assigned everywhere.
abbrev pub IsAssigned : Function → Register → ℕ → ℕ → Type 0
IsAssigned f (registers.Parameter p) b k = p < length f.parameters
IsAssigned f (registers.Result d j) b k = HasInst f d j × ((before : List ℕ) → IsWalk f (b ∷ before) → Contains before d ⊎ ((d ≡ b) × (j < k)))

-- if the operand of a read is a register, that is assigned where it is read
abbrev pub ReadIsAssigned : Function → Read → Type 0
ReadIsAssigned f r = (register : Register) → r.operand ≡ operands.Register register → IsAssigned f register r.block r.place

-- every register is assigned wherever it is read
abbrev pub ReadsAreAssigned : Function → Type 0
ReadsAreAssigned f = (b k i : ℕ) (r : Read) → IsRead f b k i r → ReadIsAssigned f r

-- operand i at place k of block b comes before operand j at place l of block c: by block, then by place, then by
-- operand
abbrev pub IsBefore : ℕ → ℕ → ℕ → ℕ → ℕ → ℕ → Type 0
IsBefore b k i c l j = (b < c) ⊎ ((b ≡ c) × ((k < l) ⊎ ((k ≡ l) × (i < j))))

-- operand i at place k of block b reads the register, which is not assigned where it is read, and every operand before
-- it is assigned where that is read, if it is a register
pub record IsFirstUnassigned (f : Function) (register : Register) (b k i : ℕ) : Type 0 where
  pub read : Read
  pub is_read : IsRead f b k i read
  pub reads : read.operand ≡ operands.Register register
  pub unassigned : ¬ IsAssigned f register read.block read.place
  pub first : (c l j : ℕ) (earlier : Read) → IsRead f c l j earlier → IsBefore c l j b k i → ReadIsAssigned f earlier
