-- How often a register is used (LangRef, "Identifiers"; of a phi each entry is an operand).
use Rattle.std.specs.Prelude.{◌≡◌, ℕ, ◌↔◌, List, length, AllPairs, Contains}
use Rattle.ir_core.specs.Assigned.{IsBefore}
use Rattle.ir_core.specs.Reads.{Read, IsRead}
use Rattle.ir_core.specs.declared.function.Function.{Function}
use Rattle.ir_core.specs.declared.operand.Operand.TheVariants as operands
use Rattle.ir_core.specs.declared.operand.Register.{Register}

-- operand i of the instruction or the terminator at place k of block b is the register
abbrev pub IsNamedAt : Function → Register → ℕ → ℕ → ℕ → Type 0
IsNamedAt f register b k i = (r : Read) × IsRead f b k i r × (r.operand ≡ operands.Register register)

-- exactly one operand of the whole function names the register
pub record IsUsedOnce (f : Function) (register : Register) : Type 0 where
  pub block : ℕ
  pub place : ℕ
  pub operand : ℕ
  pub there : IsNamedAt f register block place operand
  pub only_there : (b k i : ℕ) → IsNamedAt f register b k i → (b ≡ block) × (k ≡ place) × (i ≡ operand)

-- where an operand stands: block, place, and index among the operands there
abbrev pub UsePlace : Type 0
UsePlace = ℕ × ℕ × ℕ

-- the operand at one place comes before that at another: by block, then by place, then by operand
abbrev pub StandsBefore : UsePlace → UsePlace → Type 0
StandsBefore (b, k, i) (c, l, j) = IsBefore b k i c l j

-- these are all places where the register is named, in order
pub record AreUsesOf (f : Function) (register : Register) (places : List UsePlace) : Type 0 where
  pub in_order : AllPairs StandsBefore places
  pub each : (b k i : ℕ) → Contains places (b, k, i) ↔ IsNamedAt f register b k i

-- n operands of the whole function name the register
abbrev pub IsUseCount : Function → Register → ℕ → Type 0
IsUseCount f register n = (places : List UsePlace) × AreUsesOf f register places × (length places ≡ n)
