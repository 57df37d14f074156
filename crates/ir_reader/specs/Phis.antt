-- What phis have to meet (LangRef, "phi", "Well-Formedness").
use Rattle.std.specs.Prelude.{◌≡◌, ◌↔◌, ℕ, ◌<◌, List, Contains}
use Rattle.ir_core.specs.declared.function.Function.{Function}
use Rattle.ir_core.specs.declared.instruction.Inst.{Inst}
use Rattle.ir_core.specs.declared.instruction.Op.{Op}
use Rattle.ir_core.specs.declared.instruction.Op.TheVariants.{Binary, Compare, Unary, Select, Convert, Freeze, Phi}
use Rattle.ir_core.specs.declared.operand.Operand.{Operand}
use Rattle.ir_core.specs.Blocks.{Names}
use Rattle.ir_core.specs.Checks.{IsInst, IsPhi}

-- only phis stand before place k of block b
abbrev pub OnlyPhisBefore : Function → ℕ → ℕ → Type 0
OnlyPhisBefore f b k = (j : ℕ) (earlier : Inst) → j < k → IsInst f b j earlier → IsPhi earlier.op

-- A phi with these entries fits at place k of block b: only phis stand before it, and it has one operand for each
-- predecessor of the block, reached or not, and none for another block. That it has an entry is not asked here, since
-- the grammar asks it.
pub record PhiFits (f : Function) (b k : ℕ) (entries : List (Operand × ℕ)) : Type 0 where
  pub only_phis : OnlyPhisBefore f b k
  pub from : (c : ℕ) → ((a : Operand) × Contains entries (a, c)) ↔ Names f c b
  pub one : (x y : Operand) (c : ℕ) → Contains entries (x, c) → Contains entries (y, c) → x ≡ y

-- the instruction is no phi at this place, or a phi that fits
abbrev pub OpFits : Function → ℕ → ℕ → Op → Type 0
OpFits f b k (Phi entries) = PhiFits f b k entries
OpFits f b k (Binary op flags x y) = Unit {0}
OpFits f b k (Compare pred samesign width x y) = Unit {0}
OpFits f b k (Unary op truth x) = Unit {0}
OpFits f b k (Select c x y) = Unit {0}
OpFits f b k (Convert cast flags from x) = Unit {0}
OpFits f b k (Freeze x) = Unit {0}
