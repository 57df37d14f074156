-- The intrinsics with one operand of iN, and for all but `llvm.ctpop` a truth value (LLVM Language Reference, "Standard
-- C/C++ Library Intrinsics", "Bit Manipulation Intrinsics").
use Rattle.std.specs.Prelude.{ℕ, Bool, false, if◌then◌else◌, ◌&&◌, ◌==◌, unsigned_abs}
use Rattle.ops.specs.declared.value.Value.{Value}
use Rattle.ops.specs.declared.value.Value.TheVariants.{Poison, Bits}
use Rattle.ops.specs.declared.opcode.Unary.{Unary}
use Rattle.ops.specs.declared.opcode.Unary.TheVariants.{Abs, CtPop, CtLz, CtTz}
use Rattle.ops.specs.Integer.{bits, signed, least}
use Rattle.ops.specs.Counts.{ctpop, ctlz, cttz}

-- "llvm.abs": the absolute value of the signed number, so that the least number gives itself; and the counts of bits
unfoldable pub at_number : Unary → ℕ → ℕ → ℕ
at_number Abs N a = unsigned_abs (signed N a)
at_number CtPop N a = ctpop N a
at_number CtLz N a = ctlz N a
at_number CtTz N a = cttz N a

-- the result at this number is poison where the truth value is true: "is_int_min_poison" at the least number,
-- "is_zero_poison" at 0
unfoldable pub poison_where_true : Unary → ℕ → ℕ → Bool
poison_where_true Abs N a = a == least N
poison_where_true CtPop N a = false
poison_where_true CtLz N a = a == 0
poison_where_true CtTz N a = a == 0

-- the intrinsic at a value of iN: poison where the value is, and where a true truth value makes it so
unfoldable pub unary : Unary → Bool → ℕ → Value → Value
unary op truth N Poison = Poison
unary op truth N (Bits a) =
    if truth && poison_where_true op N a.number then Poison else bits N (at_number op N a.number)
