-- Laws of folding.
use Rattle.std.specs.Prelude.{◌≡◌, ℕ}
use Rattle.ops.specs.Number.{Number}
use Rattle.ir_core.specs.Checks.{MeetsChecks}
use Rattle.ir_core.specs.Reads.{Read, IsRead}
use Rattle.ir_core.specs.Refines.{Refines}
use Rattle.ir_core.specs.declared.function.Function.{Function}
use Rattle.ir_core.specs.declared.operand.Operand.TheVariants as operands
use Rattle.needed.specs.Cleaned.{IsCleaned}
use Rattle.fold_branch.specs.Folded.{IsFolded}

-- a folded function may stand in the place of the old one
abbrev pub FoldedFunctionsRefine : Type 0
FoldedFunctionsRefine = (f g : Function) → IsFolded f g → Refines f g

-- and meets all checks of a function where the old one does
abbrev pub FoldedFunctionsMeetChecks : Type 0
FoldedFunctionsMeetChecks = (f g : Function) → MeetsChecks f → IsFolded f g → MeetsChecks g

-- each number that a folded function reads is one that the old function read there
abbrev pub FoldedNumbersWereThere : Type 0
FoldedNumbersWereThere = (f g : Function) (b k i : ℕ) (r : Read) (n : Number) → IsFolded f g
    → IsRead g b k i r → r.operand ≡ operands.Number n
    → (j : ℕ) × (old : Read) × IsRead f b k j old × (old.operand ≡ operands.Number n)

-- folding a folded function changes nothing
abbrev pub FoldedTwiceIsFoldedOnce : Type 0
FoldedTwiceIsFoldedOnce = (f g h : Function) → IsFolded f g → IsFolded g h → h ≡ g

-- a function of which nothing is left to fold is so once it is cleaned
abbrev pub CleanedFunctionsStayFolded : Type 0
CleanedFunctionsStayFolded = (f g : Function) → IsFolded f f → IsCleaned f g → IsFolded g g
