-- The module that a number stands for: functions of one shape, each a loop of 20 instructions, 16 of which are drawn.
use Rattle.std.specs.Prelude.{ℕ, false, zero, suc, ◌+◌, ◌==◌, if◌then◌else◌, ◌++◌, List, [], ◌∷◌, Some, codes, decimal}
use Rattle.ops.specs.Flags.{no_flags}
use Rattle.ops.specs.Integer.{minus_one}
use Rattle.ops.specs.declared.opcode.Opcode.TheVariants.{Add, Sub, Mul, UDiv, Shl, And, Xor}
use Rattle.ops.specs.declared.comparison.Pred.TheVariants.{Ult}
use Rattle.ir_core.specs.declared.module.Module.{Module}
use Rattle.ir_core.specs.declared.module.Entry.{Entry}
use Rattle.ir_core.specs.declared.module.Entry.TheVariants as entries
use Rattle.ir_core.specs.declared.function.Function.{Function}
use Rattle.ir_core.specs.declared.function.Parameter.{Parameter}
use Rattle.ir_core.specs.declared.function.Block.{Block}
use Rattle.ir_core.specs.declared.instruction.Inst.{Inst}
use Rattle.ir_core.specs.declared.instruction.Op.{Op}
use Rattle.ir_core.specs.declared.instruction.Op.TheVariants.{Binary, Compare, Phi}
use Rattle.ir_core.specs.declared.operand.Operand.{Operand}
use Rattle.ir_core.specs.declared.operand.Operand.TheVariants as operands
use Rattle.ir_core.specs.declared.operand.Register.TheVariants as registers
use Rattle.ir_core.specs.declared.terminator.Terminator.TheVariants.{Return, Jump, Branch}
use Rattle.load_gen.specs.Draws.{next_state, drawn}

-- ---- operands

-- the number n of iW
abbrev pub number : ℕ → ℕ → Operand
number W n = operands.Number (record { width = W; number = n })

-- the parameters
abbrev pub a : Operand
a = operands.Register (registers.Parameter 0)

abbrev pub b : Operand
b = operands.Register (registers.Parameter 1)

-- the result of the instruction at this place of the loop: the phis %i and %p are at 0 and 1, %v1 to %v16 at 2 to 17,
-- %next at 18 and %c at 19
abbrev pub in_loop : ℕ → Operand
in_loop place = operands.Register (registers.Result 1 place)

-- the register at a place of the list %a, %b, %i, %p, %v1, %v2, ..
abbrev pub listed : ℕ → Operand
listed zero = a
listed (suc zero) = b
listed (suc (suc place)) = in_loop place

-- ---- the drawn instructions

-- the instruction that is drawn by the number d, from 0 to 8, at iW on the registers x and y
abbrev pub operation : ℕ → ℕ → Operand → Operand → Op
operation d W x y =
    if d == 0 then Binary Add no_flags x (number W 0)
    else if d == 1 then Binary Add no_flags x y
    else if d == 2 then Binary Sub no_flags x y
    else if d == 3 then Binary Mul no_flags x (number W 2)
    else if d == 4 then Binary And no_flags x x
    else if d == 5 then Binary Xor no_flags x (number W (minus_one W))
    else if d == 6 then Binary UDiv no_flags x (number W 1)
    else if d == 7 then Binary Add no_flags x (number W 3)
    else Binary Shl no_flags x (number W 1)

-- %vk, by three draws from state s: the number of the instruction, then x, then y, both among the k + 3 registers
-- before it
unfoldable pub drawn_inst : ℕ → ℕ → ℕ → Inst
drawn_inst W k s = record {
  name = Some (codes "v" ++ decimal k);
  width = W;
  op = operation (drawn s 9) W (listed (drawn (next_state s) (k + 3))) (listed (drawn (next_state (next_state s)) (k + 3)));
}

-- the state after the draws for %v1 to %vk, where it was s before them
unfoldable pub state_after : ℕ → ℕ → ℕ
state_after s zero = s
state_after s (suc k) = next_state (next_state (next_state (state_after s k)))

-- %v1 to %vk
unfoldable pub drawn_insts : ℕ → ℕ → ℕ → List Inst
drawn_insts W s zero = []
drawn_insts W s (suc k) = drawn_insts W s k ++ drawn_inst W (suc k) (state_after s k) ∷ []

-- ---- functions

-- the width: 3, 4 or 5
abbrev pub width : ℕ → ℕ
width s = 3 + drawn s 3

-- an instruction that is the same in each function but for its width
abbrev pub fixed : List ℕ → ℕ → Op → Inst
fixed name W op = record { name = Some name; width = W; op = op }

-- the instructions of the loop at iW, where the state is s before the drawn ones
unfoldable pub loop_insts : ℕ → ℕ → List Inst
loop_insts W s =
    fixed (codes "i") W (Phi ((number W 0, 0) ∷ (in_loop 18, 1) ∷ []))
    ∷ fixed (codes "p") W (Phi ((a, 0) ∷ (in_loop 17, 1) ∷ []))
    ∷ drawn_insts W s 16
    ++ fixed (codes "next") W (Binary Add no_flags (in_loop 0) (number W 1))
    ∷ fixed (codes "c") 1 (Compare Ult false W (in_loop 0) b)
    ∷ []

abbrev pub parameter : ℕ → List ℕ → Parameter
parameter W name = record { width = W; items = []; name = Some name }

-- the blocks: the entry, the loop, and the exit, which returns %v16
unfoldable pub blocks : ℕ → ℕ → List Block
blocks W s =
    record { name = Some (codes "entry"); insts = []; end = Jump 1 }
    ∷ record { name = Some (codes "loop"); insts = loop_insts W s; end = Branch (in_loop 19) 1 2 }
    ∷ record { name = Some (codes "exit"); insts = []; end = Return (in_loop 17) }
    ∷ []

-- function J, made from state s: its width is drawn first
unfoldable pub function : ℕ → ℕ → Function
function s J = record {
  name = codes "f" ++ decimal J;
  before = [];
  width = width s;
  parameters = parameter (width s) (codes "a") ∷ parameter (width s) (codes "b") ∷ [];
  after = [];
  blocks = blocks (width s) (next_state s);
}

-- ---- the module

-- the state before function J: at first the number itself
unfoldable pub state_before : ℕ → ℕ → ℕ
state_before number zero = number
state_before number (suc J) = state_after (next_state (state_before number J)) 16

-- the functions from the first on, as many as are asked for
unfoldable pub functions : ℕ → ℕ → List Entry
functions number zero = []
functions number (suc J) = functions number J ++ entries.Function (function (state_before number J) J) ∷ []

-- the module of the number, with so many functions
abbrev pub generated : ℕ → ℕ → Module
generated number count = record { entries = functions number count }
