-- What is left of a function where some of its instructions are kept and the others removed.
use Rattle.std.specs.Prelude.{ℕ, zero, suc, ◌+◌, Bool, true, false, if◌then◌else◌, List, [], ◌∷◌, map}
use Rattle.ir_core.specs.declared.function.Function.{Function}
use Rattle.ir_core.specs.declared.function.Block.{Block}
use Rattle.ir_core.specs.declared.instruction.Inst.{Inst}
use Rattle.ir_core.specs.declared.instruction.Op.{Op}
use Rattle.ir_core.specs.declared.instruction.Op.TheVariants.{Binary, Compare, Unary, Select, Convert, Freeze, Phi}
use Rattle.ir_core.specs.declared.operand.Operand.{Operand}
use Rattle.ir_core.specs.declared.operand.Operand.TheVariants as operands
use Rattle.ir_core.specs.declared.operand.Register.{Register}
use Rattle.ir_core.specs.declared.operand.Register.TheVariants as registers
use Rattle.ir_core.specs.declared.terminator.Terminator.{Terminator}
use Rattle.ir_core.specs.declared.terminator.Terminator.TheVariants as terminators

-- for instruction k of block b, whether it is kept
abbrev pub KeptMarks : Type 0
KeptMarks = ℕ → ℕ → Bool

-- how many of the first k instructions of block b are kept: the index of its instruction k afterwards
abbrev pub kept_before : KeptMarks → ℕ → ℕ → ℕ
kept_before kept b zero = 0
kept_before kept b (suc k) = (if kept b k then 1 else 0) + kept_before kept b k

-- a register, an operand, an operation, an instruction and a terminator, with registers renamed to their new indices
abbrev pub moved_register : KeptMarks → Register → Register
moved_register kept (registers.Parameter p) = registers.Parameter p
moved_register kept (registers.Result b k) = registers.Result b (kept_before kept b k)

abbrev pub moved_operand : KeptMarks → Operand → Operand
moved_operand kept (operands.Register r) = operands.Register (moved_register kept r)
moved_operand kept (operands.Number n) = operands.Number n
moved_operand kept operands.Undef = operands.Undef
moved_operand kept operands.Poison = operands.Poison

abbrev pub moved_op : KeptMarks → Op → Op
moved_op kept (Binary op flags x y) = Binary op flags (moved_operand kept x) (moved_operand kept y)
moved_op kept (Compare pred samesign width x y) = Compare pred samesign width (moved_operand kept x) (moved_operand kept y)
moved_op kept (Unary op truth x) = Unary op truth (moved_operand kept x)
moved_op kept (Select c x y) = Select (moved_operand kept c) (moved_operand kept x) (moved_operand kept y)
moved_op kept (Convert cast flags from x) = Convert cast flags from (moved_operand kept x)
moved_op kept (Freeze x) = Freeze (moved_operand kept x)
moved_op kept (Phi entries) = Phi (map (λ e. (moved_operand kept e.0, e.1)) entries)

abbrev pub moved_inst : KeptMarks → Inst → Inst
moved_inst kept inst = record { name = inst.name; width = inst.width; op = moved_op kept inst.op }

abbrev pub moved_end : KeptMarks → Terminator → Terminator
moved_end kept (terminators.Return a) = terminators.Return (moved_operand kept a)
moved_end kept (terminators.Jump to) = terminators.Jump to
moved_end kept (terminators.Branch c to other) = terminators.Branch (moved_operand kept c) to other
moved_end kept (terminators.Switch a width other cases) = terminators.Switch (moved_operand kept a) width other cases
moved_end kept terminators.Unreachable = terminators.Unreachable

-- the list with the instruction before it, if that is kept
abbrev pub kept_first : Bool → Inst → List Inst → List Inst
kept_first true inst insts = inst ∷ insts
kept_first false inst insts = insts

-- those of these instructions that are kept, which are the ones of block b from place k on
abbrev pub kept_insts : KeptMarks → ℕ → ℕ → List Inst → List Inst
kept_insts kept b k [] = []
kept_insts kept b k (inst ∷ insts) = kept_first (kept b k) (moved_inst kept inst) (kept_insts kept b (suc k) insts)

-- block b with its kept instructions alone
abbrev pub kept_block : KeptMarks → ℕ → Block → Block
kept_block kept b block = record { name = block.name; insts = kept_insts kept b 0 block.insts; end = moved_end kept block.end }

-- the blocks from block b on, each with its kept instructions alone
abbrev pub kept_blocks : KeptMarks → ℕ → List Block → List Block
kept_blocks kept b [] = []
kept_blocks kept b (block ∷ blocks) = kept_block kept b block ∷ kept_blocks kept (suc b) blocks

-- the function with its kept instructions alone
abbrev pub kept_function : KeptMarks → Function → Function
kept_function kept f = record { name = f.name; before = f.before; width = f.width; parameters = f.parameters; after = f.after; blocks = kept_blocks kept 0 f.blocks }
