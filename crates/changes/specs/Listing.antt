-- Listing places of a function in order.
use Rattle.std.specs.Prelude.{◌≡◌, ℕ, ◌<◌, ◌⊎◌, length, true, Some, Contains}
use Rattle.ir_core.specs.Blocks.{HasInst}
use Rattle.ir_core.specs.Checks.{IsInst}
use Rattle.ir_core.specs.declared.function.Function.{Function}
use Rattle.ir_core.specs.declared.instruction.Inst.{Inst}
use Rattle.ir_core.specs.declared.operand.Operand.TheVariants as operands
use Rattle.needed.specs.Operands.{operands_of}
use Rattle.places.specs.Sets.{Rows, Has}
use Rattle.substitution.specs.Rewritten.{root_of}
use Rattle.substitution.specs.declared.rewrite.Rewrite.{Rewrite}
use Rattle.changes.specs.Calls.{rewritten_moves}
use Rattle.changes.specs.declared.applying.Put.{Put}

-- it is in an earlier block, or before place n of block c
abbrev pub IsPast : ℕ → ℕ → ℕ → ℕ → Type 0
IsPast c n b k = (b < c) ⊎ ((b ≡ c) × (k < n))

-- l is a place that R gives for one of the instructions before place n of block c, in block b
abbrev pub ListedTo : Function → (ℕ → ℕ → ℕ → Type 0) → ℕ → ℕ → ℕ → ℕ → Type 0
ListedTo f R c n b l = (k : ℕ) × IsPast c n b k × HasInst f b k × R b k l

abbrev pub Listed : Function → (ℕ → ℕ → ℕ → Type 0) → ℕ → ℕ → Type 0
Listed f R b l = (k : ℕ) × HasInst f b k × R b k l

-- it is in the set, and is given its own place
abbrev pub IsIn : Rows → ℕ → ℕ → ℕ → Type 0
IsIn rows b k l = Has rows b k × (l ≡ k)

-- so many instructions are inserted in the place of the root
pub record IsPutFor (w : Rewrite) (put : Put) : Type 0 where
  pub block : w.block ≡ put.block
  pub place : w.place ≡ put.place
  pub count : length w.put ≡ put.count

-- the instruction reads the root, and is given its new place after the root is removed
abbrev pub ReadsRoot : Function → Rewrite → ℕ → ℕ → ℕ → Type 0
ReadsRoot f w b k l = (inst : Inst) × IsInst f b k inst × Contains (operands_of inst.op) (operands.Register (root_of w)) × (rewritten_moves w true b k ≡ Some l)
