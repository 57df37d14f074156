-- How many gates the circuit of an instruction adds at most.
use Rattle.std.specs.Prelude.{ℕ, ◌+◌, ◌*◌, max, fold, Bool, true, false, List}
use Rattle.ops.specs.declared.opcode.Opcode.{Opcode}
use Rattle.ops.specs.declared.opcode.Opcode.TheVariants.{Add, Sub, Mul, UDiv, SDiv, URem, SRem, Shl, LShr, AShr, And, Or, Xor, UMin, UMax, SMin, SMax}
use Rattle.ops.specs.declared.opcode.Unary.{Unary}
use Rattle.ops.specs.declared.opcode.Unary.TheVariants.{Abs, CtPop, CtLz, CtTz}
use Rattle.ops.specs.declared.conversion.Cast.{Cast}
use Rattle.ops.specs.declared.conversion.Cast.TheVariants.{Trunc, ZExt, SExt}
use Rattle.circuits.specs.Gates.{adder_gates, comparison_gates, equality_gates, extreme_gates, select_gates, shift_gates}
use Rattle.circ_counts.specs.Gates.{count_gates, zeros_gates}
use Rattle.circ_muldiv.specs.Gates.{absolute_gates, product_gates, overflow_add_gates, overflow_mul_gates, division_gates, signed_division_gates}
use Rattle.blast_value.specs.declared.arithmetic.Arithmetic.{Arithmetic}
use Rattle.blast_value.specs.declared.arithmetic.Arithmetic.TheVariants as arithmetic
use Rattle.blast_value.specs.declared.strict.Strict.{Strict}
use Rattle.blast_value.specs.declared.strict.Strict.TheVariants as strict
use Rattle.blast_value.specs.declared.instruction.Instruction.{Instruction}
use Rattle.blast_value.specs.declared.instruction.Instruction.TheVariants as instructions

-- The poison of two operands and of the result at their numbers.
abbrev pub poison_gates : ℕ
poison_gates = 2

-- A sum, a difference or a product; and below, whether it overflows.
abbrev pub result_gates : Arithmetic → ℕ → ℕ
result_gates arithmetic.Add width = adder_gates width
result_gates arithmetic.Sub width = adder_gates width
result_gates arithmetic.Mul width = product_gates width

abbrev pub overflow_gates : Bool → Arithmetic → ℕ → ℕ
overflow_gates is_signed arithmetic.Add width = overflow_add_gates width
overflow_gates is_signed arithmetic.Sub width = overflow_add_gates width
overflow_gates is_signed arithmetic.Mul width = overflow_mul_gates is_signed width

-- The result, and whether it overflows unsigned and signed.
abbrev pub checked_gates : Arithmetic → ℕ → ℕ
checked_gates op width = result_gates op width + overflow_gates false op width + overflow_gates true op width + 1

-- A shift to the left, whether the amount is too large, and whether shifting back, unsigned and signed, gives another
-- number.
abbrev pub left_gates : ℕ → ℕ
left_gates width = comparison_gates width + 3 * shift_gates width width + 2 * equality_gates width + 2

-- A shift to the right, whether the amount is too large, and whether shifting back gives another number.
abbrev pub right_gates : ℕ → ℕ
right_gates width = comparison_gates width + 2 * shift_gates width width + equality_gates width + 1

-- The bits that both of two words have, and whether one is true.
abbrev pub sharing_gates : ℕ → ℕ
sharing_gates width = width + equality_gates width

-- Two words bit by bit, and whether they share a bit.
abbrev pub bitwise_gates : ℕ → ℕ
bitwise_gates width = width + sharing_gates width

-- The result at two numbers, of instructions that don't divide.
abbrev pub number_gates : Strict → ℕ → ℕ
number_gates (strict.Arithmetic op) width = checked_gates op width
number_gates strict.Shl width = left_gates width
number_gates strict.LShr width = right_gates width
number_gates strict.AShr width = right_gates width
number_gates (strict.Bitwise op) width = bitwise_gates width
number_gates (strict.Extreme op) width = extreme_gates width

-- A quotient and a remainder, unsigned or signed.
abbrev pub quotient_gates : Bool → ℕ → ℕ
quotient_gates false width = division_gates width
quotient_gates true width = signed_division_gates width

-- An unsigned division: a quotient and a remainder, whether the divisor is poison or 0, and whether the dividend is
-- poison or a remainder is left.
abbrev pub unsigned_gates : ℕ → ℕ
unsigned_gates width = quotient_gates false width + 2 * equality_gates width + 2

-- A signed division: all this, and whether the divisor is -1 and the dividend poison or the least number.
abbrev pub signed_gates : ℕ → ℕ
signed_gates width = quotient_gates true width + 4 * equality_gates width + 5

-- An instruction with two operands of one width.
abbrev pub opcode_gates : Opcode → ℕ → ℕ
opcode_gates Add width = checked_gates arithmetic.Add width + poison_gates
opcode_gates Sub width = checked_gates arithmetic.Sub width + poison_gates
opcode_gates Mul width = checked_gates arithmetic.Mul width + poison_gates
opcode_gates UDiv width = unsigned_gates width
opcode_gates URem width = unsigned_gates width
opcode_gates SDiv width = signed_gates width
opcode_gates SRem width = signed_gates width
opcode_gates Shl width = left_gates width + poison_gates
opcode_gates LShr width = right_gates width + poison_gates
opcode_gates AShr width = right_gates width + poison_gates
opcode_gates And width = bitwise_gates width + poison_gates
opcode_gates Or width = bitwise_gates width + poison_gates
opcode_gates Xor width = bitwise_gates width + poison_gates
opcode_gates UMin width = extreme_gates width + poison_gates
opcode_gates UMax width = extreme_gates width + poison_gates
opcode_gates SMin width = extreme_gates width + poison_gates
opcode_gates SMax width = extreme_gates width + poison_gates

-- Whether sign bits differ, and the poison of that and of two operands.
abbrev pub sign_gates : ℕ
sign_gates = 1 + poison_gates

-- Whether a flag of a cast is broken: whether a truncated number, extended again, unsigned and signed, is another one.
abbrev pub broken_gates : Cast → ℕ → ℕ
broken_gates Trunc operand_width = 2 * equality_gates operand_width + 1
broken_gates ZExt operand_width = 0
broken_gates SExt operand_width = 0

-- A cast: whether a flag is broken, and the poison of the operand.
abbrev pub cast_gates : Cast → ℕ → ℕ
cast_gates cast operand_width = broken_gates cast operand_width + 1

-- The result of an intrinsic at a number: an absolute value, or a count of bits.
abbrev pub intrinsic_gates : Unary → ℕ → ℕ
intrinsic_gates Abs width = absolute_gates width
intrinsic_gates CtPop width = count_gates width
intrinsic_gates CtLz width = zeros_gates width
intrinsic_gates CtTz width = zeros_gates width

-- An intrinsic: its result at a number, whether its flag makes that poison, and the poison of the operand.
abbrev pub unary_gates : Unary → ℕ → ℕ
unary_gates op width = intrinsic_gates op width + equality_gates width + 1

-- An instruction with a result of `width` bits, whose widest operand has `operand_width`.
abbrev pub gates_of : Instruction → ℕ → ℕ → ℕ
gates_of (instructions.Binary op flags) width operand_width = opcode_gates op width
gates_of (instructions.Compare pred samesign) width operand_width = comparison_gates operand_width + sign_gates
gates_of instructions.Select width operand_width = select_gates width + 2
gates_of (instructions.Convert cast flags) width operand_width = cast_gates cast operand_width
gates_of (instructions.Unary op truth) width operand_width = unary_gates op width

-- The greatest of some widths.
abbrev pub greatest : List ℕ → ℕ
greatest widths = fold max 0 widths
