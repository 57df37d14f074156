-- Laws of counts of uses.
use Rattle.std.specs.Prelude.{◌≡◌, ℕ, ◌↔◌}
use Rattle.ir_core.specs.declared.function.Function.{Function}
use Rattle.ir_core.specs.declared.operand.Register.{Register}
use Rattle.use_counts.specs.Uses.{IsUsedOnce, IsUseCount}

-- a register has one count of uses
abbrev pub UseCountsAreOne : Type 0
UseCountsAreOne = (f : Function) (register : Register) (m n : ℕ) → IsUseCount f register m → IsUseCount f register n → m ≡ n

-- and the count is 1 exactly where it is used once
abbrev pub CountOfOneIsOneUse : Type 0
CountOfOneIsOneUse = (f : Function) (register : Register) → IsUseCount f register 1 ↔ IsUsedOnce f register
