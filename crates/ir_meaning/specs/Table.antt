-- The registers of a function in one list of values: parameters first, and then the results block by block.
use Rattle.std.specs.Prelude.{◌≡◌, ℕ, ◌+◌, ◌<◌, List, length, take, Some, option_and_then, slice_get}
use Rattle.std.specs.List.{sum_by}
use Rattle.ops.specs.Value.{IsValueOf}
use Rattle.ops.specs.declared.value.Value.{Value}
use Rattle.ir_core.specs.Names.{width_of}
use Rattle.ir_core.specs.Run.{Registers}
use Rattle.ir_core.specs.declared.function.Function.{Function}
use Rattle.ir_core.specs.declared.operand.Register.{Register}
use Rattle.ir_core.specs.declared.operand.Register.TheVariants as registers
use Rattle.ir_meaning.specs.Laws.{HoldWidths}

-- the index of the first result of block b: how many parameters there are, and results of earlier blocks
unfoldable pub first_of : Function → ℕ → ℕ
first_of f b = length f.parameters + sum_by (λ block. length block.insts) (take b f.blocks)

-- the index of a register in the list
unfoldable pub place_of : Function → Register → ℕ
place_of f (registers.Parameter k) = k
place_of f (registers.Result b k) = first_of f b + k

-- what the registers of the function hold if the values in the list are theirs, each at its index
unfoldable pub held_of : Function → List Value → Registers
held_of f values r = option_and_then (λ width. slice_get values (place_of f r)) (width_of f r)

-- the value is one of the register's width
abbrev pub Fits : Function → Register → Value → Type 0
Fits f r v = (width : ℕ) × (width_of f r ≡ Some width) × IsValueOf width v

-- there is a value of its width for each register, and `firsts` has the index of each block's first result
pub record IsTable (f : Function) (firsts : List ℕ) (values : List Value) : Type 0 where
  pub starts : (b : ℕ) → b < length f.blocks → slice_get firsts b ≡ Some (first_of f b)
  pub size : length values ≡ first_of f (length f.blocks)
  pub widths : HoldWidths f (held_of f values)
