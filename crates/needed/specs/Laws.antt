-- Laws of dead code elimination (cleaning).
use Rattle.std.specs.Prelude.{◌≡◌, ℕ}
use Rattle.ops.specs.Number.{Number}
use Rattle.ir_core.specs.declared.module.Module.{Module}
use Rattle.ir_core.specs.declared.function.Function.{Function}
use Rattle.ir_core.specs.Checks.{MeetsChecks, ModuleMeetsChecks}
use Rattle.ir_core.specs.declared.operand.Operand.TheVariants as operands
use Rattle.ir_core.specs.Reads.{Read, IsRead}
use Rattle.ir_core.specs.Refines.{Refines, ModuleRefines}
use Rattle.needed.specs.Cleaned.{IsCleaned, ModuleCleaned}

-- a cleaned function refines the old one
abbrev pub CleanedFunctionsRefine : Type 0
CleanedFunctionsRefine = (f g : Function) → MeetsChecks f → IsCleaned f g → Refines f g

-- and meets all checks of a function as well
abbrev pub CleanedFunctionsMeetChecks : Type 0
CleanedFunctionsMeetChecks = (f g : Function) → MeetsChecks f → IsCleaned f g → MeetsChecks g

-- each literal number that a cleaned function reads is one that the old function read
abbrev pub CleanedNumbersWereThere : Type 0
CleanedNumbersWereThere = (f g : Function) (b k i : ℕ) (r : Read) (n : Number) → MeetsChecks f → IsCleaned f g
    → IsRead g b k i r → r.operand ≡ operands.Number n
    → (place : ℕ) × (old : Read) × IsRead f b place i old × (old.operand ≡ operands.Number n)

-- a cleaned module refines the old one
abbrev pub CleanedModulesRefine : Type 0
CleanedModulesRefine = (m n : Module) → ModuleMeetsChecks m → ModuleCleaned m n → ModuleRefines m n

-- and meets all checks of a module as well
abbrev pub CleanedModulesMeetChecks : Type 0
CleanedModulesMeetChecks = (m n : Module) → ModuleMeetsChecks m → ModuleCleaned m n → ModuleMeetsChecks n
