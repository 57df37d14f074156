-- Tables of the positions of instructions.
use Rattle.std.specs.Prelude.{◌≡◌, ℕ, ◌<◌, List, [], length, Some, slice_get, slice_index_or}
use Rattle.ir_core.specs.declared.function.Block.{Block}
use Rattle.ir_core.specs.declared.operand.Operand.TheVariants as operands
use Rattle.ir_core.specs.declared.operand.Register.TheVariants as registers
use Rattle.substitution.specs.Substitution.{Substitution}
use Rattle.places.specs.Orders.{place_in}

-- numbers below a count, each at most once
pub record IsOrdering (count : ℕ) (numbers : List ℕ) : Type 0 where
  pub below : (k n : ℕ) → slice_get numbers k ≡ Some n → n < count
  pub once : (k n : ℕ) → slice_get numbers k ≡ Some n → place_in numbers n ≡ k

-- of each block numbers of its instructions, each at most once
abbrev pub AreOrdered : List Block → List (List ℕ) → Type 0
AreOrdered blocks rows = (b : ℕ) (block : Block) → slice_get blocks b ≡ Some block → IsOrdering (length block.insts) (slice_index_or rows b [])

-- names a result by its position, as a table has it for its number
abbrev pub at_places : List (List ℕ) → Substitution
at_places places (registers.Parameter p) = operands.Register (registers.Parameter p)
at_places places (registers.Result b n) = operands.Register (registers.Result b (slice_index_or (slice_index_or places b []) n 0))
