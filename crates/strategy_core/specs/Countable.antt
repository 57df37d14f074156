-- Sizes that fit the 32 bits of the code's numbers.
use Rattle.std.specs.Prelude.{◌≡◌, ℕ, ◌+◌, ◌*◌, ◌<◌, ◌^◌, length, Some, All, slice_get}
use Rattle.ir_core.specs.declared.module.Module.{Module}
use Rattle.ir_core.specs.declared.module.Entry.TheVariants as entries
use Rattle.ir_core.specs.declared.function.Function.{Function}

-- the function has fewer than 2^32 blocks, and each block has fewer instructions, even with 32 more for each step
pub record IsCountable (steps : ℕ) (f : Function) : Type 0 where
  pub blocks : length f.blocks < 2 ^ 32
  pub insts : All (λ b. length b.insts + 32 * steps < 2 ^ 32) f.blocks

-- each function of the module is of such a size
abbrev pub ModuleIsCountable : ℕ → Module → Type 0
ModuleIsCountable steps m = (k : ℕ) (f : Function) → slice_get m.entries k ≡ Some (entries.Function f) → IsCountable steps f
