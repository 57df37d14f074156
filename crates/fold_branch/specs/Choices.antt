-- Where branches and switches on numbers go.
use Rattle.std.specs.Prelude.{ℕ, map, Option, None, Some, option_map}
use Rattle.ir_core.specs.Run.{branch_target, switch_target}
use Rattle.ir_core.specs.declared.function.Block.{Block}
use Rattle.ir_core.specs.declared.function.Function.{Function}
use Rattle.ir_core.specs.declared.operand.Operand.{Operand}
use Rattle.ir_core.specs.declared.operand.Operand.TheVariants as operands
use Rattle.ir_core.specs.declared.terminator.Terminator.{Terminator}
use Rattle.ir_core.specs.declared.terminator.Terminator.TheVariants as terminators

-- the number that an operand is, if it is a literal one
abbrev pub literal : Operand → Option ℕ
literal (operands.Register r) = None
literal (operands.Number n) = Some n.number
literal operands.Undef = None
literal operands.Poison = None

-- the block to which a branch or a switch goes, if its condition is a number
abbrev pub chosen : Terminator → Option ℕ
chosen (terminators.Return a) = None
chosen (terminators.Jump to) = None
chosen (terminators.Branch c to other) = option_map (branch_target to other) (literal c)
chosen (terminators.Switch a width other cases) = option_map (switch_target cases other) (literal a)
chosen terminators.Unreachable = None

-- a jump to the block, if there is one, and else the terminator
abbrev pub jump_or : Option ℕ → Terminator → Terminator
jump_or (Some to) end = terminators.Jump to
jump_or None end = end

-- a branch or a switch on a number as a jump to the block that the number chooses
abbrev pub decided_end : Terminator → Terminator
decided_end end = jump_or (chosen end) end

abbrev pub decided_block : Block → Block
decided_block block = record { name = block.name; insts = block.insts; end = decided_end block.end }

-- the function with these jumps, all else as it was
abbrev pub decided : Function → Function
decided f = record { name = f.name; before = f.before; width = f.width; parameters = f.parameters; after = f.after; blocks = map decided_block f.blocks }
