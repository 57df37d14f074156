-- How far reads are checked.
use Rattle.std.specs.Prelude.{ℕ}
use Rattle.ir_core.specs.declared.function.Function.{Function}
use Rattle.ir_core.specs.Assigned.{ReadIsAssigned, IsBefore}
use Rattle.ir_core.specs.Reads.{Read, IsRead}

-- every read before operand i at place k of block b is of a register that is assigned there, or of no register
abbrev pub AssignedBefore : Function → ℕ → ℕ → ℕ → Type 0
AssignedBefore f b k i = (c l j : ℕ) (earlier : Read) → IsRead f c l j earlier → IsBefore c l j b k i → ReadIsAssigned f earlier
