-- What an error tells.
use Rattle.std.specs.Prelude.{ℕ}
use Rattle.ir_core.specs.declared.operand.Register.{Register}
use Rattle.assigned_flow.specs.declared.error.FlowError.{FlowError}
use Rattle.assigned_flow.specs.declared.error.FlowError.TheVariants.{Unassigned, NoMemory}

-- P holds of the register, and of the block, the place and the operand of the read, unless the error is want of memory
abbrev pub IfUnassigned : FlowError → (Register → ℕ → ℕ → ℕ → Type 0) → Type 0
IfUnassigned (Unassigned register block place operand) P = P register block place operand
IfUnassigned NoMemory P = Unit {0}
