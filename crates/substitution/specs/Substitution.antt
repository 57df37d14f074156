-- Operations and terminators in which an operand is substituted for each register that they read, and what they give
-- then.
use Rattle.std.specs.Prelude.{◌≢◌, ℕ, List, map, Option, None, Some}
use Rattle.ops.specs.declared.value.Value.{Value}
use Rattle.ops.specs.declared.value.Value.TheVariants as values
use Rattle.ir_core.specs.Run.{Registers, Ending, Undefines, Returns, Goes}
use Rattle.ir_core.specs.declared.function.Block.{Block}
use Rattle.ir_core.specs.declared.instruction.Inst.{Inst}
use Rattle.ir_core.specs.declared.instruction.Op.{Op}
use Rattle.ir_core.specs.declared.instruction.Op.TheVariants.{Binary, Compare, Unary, Select, Convert, Freeze, Phi}
use Rattle.ir_core.specs.declared.operand.Operand.{Operand}
use Rattle.ir_core.specs.declared.operand.Operand.TheVariants as operands
use Rattle.ir_core.specs.declared.operand.Register.{Register}
use Rattle.ir_core.specs.declared.terminator.Terminator.{Terminator}
use Rattle.ir_core.specs.declared.terminator.Terminator.TheVariants as terminators

-- for each register the operand that is substituted for it
abbrev pub Substitution : Type 0
Substitution = Register → Operand

-- an operand, the entries of a phi, an operation, an instruction, a terminator and a block, with the substitute for
-- each register that is read
abbrev pub substituted_operand : Substitution → Operand → Operand
substituted_operand to (operands.Register r) = to r
substituted_operand to (operands.Number n) = operands.Number n
substituted_operand to operands.Undef = operands.Undef
substituted_operand to operands.Poison = operands.Poison

abbrev pub substituted_entries : Substitution → List (Operand × ℕ) → List (Operand × ℕ)
substituted_entries to entries = map (λ e. (substituted_operand to e.0, e.1)) entries

abbrev pub substituted_op : Substitution → Op → Op
substituted_op to (Binary op flags x y) = Binary op flags (substituted_operand to x) (substituted_operand to y)
substituted_op to (Compare pred samesign width x y) = Compare pred samesign width (substituted_operand to x) (substituted_operand to y)
substituted_op to (Unary op truth x) = Unary op truth (substituted_operand to x)
substituted_op to (Select c x y) = Select (substituted_operand to c) (substituted_operand to x) (substituted_operand to y)
substituted_op to (Convert cast flags from x) = Convert cast flags from (substituted_operand to x)
substituted_op to (Freeze x) = Freeze (substituted_operand to x)
substituted_op to (Phi entries) = Phi (substituted_entries to entries)

abbrev pub substituted_inst : Substitution → Inst → Inst
substituted_inst to inst = record { name = inst.name; width = inst.width; op = substituted_op to inst.op }

abbrev pub substituted_end : Substitution → Terminator → Terminator
substituted_end to (terminators.Return a) = terminators.Return (substituted_operand to a)
substituted_end to (terminators.Jump b) = terminators.Jump b
substituted_end to (terminators.Branch c b other) = terminators.Branch (substituted_operand to c) b other
substituted_end to (terminators.Switch a width other cases) = terminators.Switch (substituted_operand to a) width other cases
substituted_end to terminators.Unreachable = terminators.Unreachable

abbrev pub substituted_block : Substitution → Block → Block
substituted_block to block = record { name = block.name; insts = map (substituted_inst to) block.insts; end = substituted_end to block.end }

-- no substitute is `undef`, since each read of that may give another number
abbrev pub IsDefinite : Substitution → Type 0
IsDefinite to = (r : Register) → to r ≢ operands.Undef

-- the value that an operand other than `undef` has
abbrev pub value_of : Registers → Operand → Option Value
value_of held (operands.Register r) = held r
value_of held (operands.Number n) = Some (values.Bits n)
value_of held operands.Undef = None
value_of held operands.Poison = Some values.Poison

-- each register holds the value of its substitute; and the ending of a pass with registers that do so
abbrev pub pulled_back : Substitution → Registers → Registers
pulled_back to held r = value_of held (to r)

abbrev pub ending_back : Substitution → Ending → Ending
ending_back to Undefines = Undefines
ending_back to (Returns v) = Returns v
ending_back to (Goes b held) = Goes b (pulled_back to held)
