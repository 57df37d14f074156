-- The control-flow graph of a function, as lists of successors.
use Rattle.std.specs.Prelude.{ℕ, ◌<◌, List, length, map}
use Rattle.ir_core.specs.declared.function.Function.{Function}
use Rattle.ir_core.specs.declared.operand.Register.{Register}
use Rattle.ir_core.specs.declared.operand.Register.TheVariants as registers
use Rattle.ir_core.specs.Blocks.{targets_of, HasInst}

-- the successors of each block
abbrev pub successors_of : Function → List (List ℕ)
successors_of f = map (λ block. targets_of block.end) f.blocks

-- the function has the register
abbrev pub HasRegister : Function → Register → Type 0
HasRegister f (registers.Parameter p) = p < length f.parameters
HasRegister f (registers.Result d j) = HasInst f d j
