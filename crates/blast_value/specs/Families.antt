-- The families of instructions with two operands, as the Language Reference groups them, and their results at numbers.
use Rattle.std.specs.Prelude.{ℕ, ◌+◌, ◌-◌, ◌*◌, ◌^◌, ◌/◌, ◌%◌, nat_le, ◌&&◌, Bool, true, false, ℤ, ◌+ℤ◌, ◌-ℤ◌, ◌*ℤ◌, unsigned_abs, bit_and, bit_or, bit_xor}
use Rattle.ops.specs.declared.value.Value.{Value}
use Rattle.ops.specs.declared.opcode.Opcode.{Opcode}
use Rattle.ops.specs.declared.opcode.Opcode.TheVariants as opcodes
use Rattle.ops.specs.declared.opcode.Flags.{Flags}
use Rattle.ops.specs.declared.comparison.Pred.{Pred}
use Rattle.ops.specs.declared.comparison.Pred.TheVariants.{Eq, Ne, Ugt, Uge, Ult, Ule, Sgt, Sge, Slt, Sle}
use Rattle.ops.specs.Flags.{no_flags}
use Rattle.ops.specs.Integer.{bits, signed, residue}
use Rattle.ops.specs.Division.{divides, quotient, remainder, exactly}
use Rattle.ops.specs.Shifts as shifts
use Rattle.circuits.specs.Extreme.{smaller, larger}
use Rattle.circuits.specs.Word.{bit}
use Rattle.blast_value.specs.declared.arithmetic.Arithmetic.{Arithmetic}
use Rattle.blast_value.specs.declared.arithmetic.Arithmetic.TheVariants.{Add, Sub, Mul}
use Rattle.blast_value.specs.declared.bitwise.Bitwise.{Bitwise}
use Rattle.blast_value.specs.declared.bitwise.Bitwise.TheVariants.{And, Or, Xor}
use Rattle.blast_value.specs.declared.division.Division.{Division}
use Rattle.blast_value.specs.declared.division.Division.TheVariants.{UDiv, SDiv, URem, SRem}
use Rattle.blast_value.specs.declared.extreme.Extreme.{Extreme}
use Rattle.blast_value.specs.declared.extreme.Extreme.TheVariants.{UMin, UMax, SMin, SMax}
use Rattle.blast_value.specs.declared.strict.Strict.{Strict}
use Rattle.blast_value.specs.declared.strict.Strict.TheVariants as strict

abbrev pub arithmetic_opcode : Arithmetic → Opcode
arithmetic_opcode Add = opcodes.Add
arithmetic_opcode Sub = opcodes.Sub
arithmetic_opcode Mul = opcodes.Mul

abbrev pub division_opcode : Division → Opcode
division_opcode UDiv = opcodes.UDiv
division_opcode SDiv = opcodes.SDiv
division_opcode URem = opcodes.URem
division_opcode SRem = opcodes.SRem

abbrev pub bitwise_opcode : Bitwise → Opcode
bitwise_opcode And = opcodes.And
bitwise_opcode Or = opcodes.Or
bitwise_opcode Xor = opcodes.Xor

abbrev pub extreme_opcode : Extreme → Opcode
extreme_opcode UMin = opcodes.UMin
extreme_opcode UMax = opcodes.UMax
extreme_opcode SMin = opcodes.SMin
extreme_opcode SMax = opcodes.SMax

abbrev pub strict_opcode : Strict → Opcode
strict_opcode (strict.Arithmetic op) = arithmetic_opcode op
strict_opcode strict.Shl = opcodes.Shl
strict_opcode strict.LShr = opcodes.LShr
strict_opcode strict.AShr = opcodes.AShr
strict_opcode (strict.Bitwise op) = bitwise_opcode op
strict_opcode (strict.Extreme op) = extreme_opcode op

-- the exact result over whole numbers
abbrev pub exact : Arithmetic → ℤ → ℤ → ℤ
exact Add y z = y +ℤ z
exact Sub y z = y -ℤ z
exact Mul y z = y *ℤ z

-- whether the operands are read as signed numbers
abbrev pub is_signed : Division → Bool
is_signed UDiv = false
is_signed SDiv = true
is_signed URem = false
is_signed SRem = true

-- A quotient or a remainder, where there is one; a quotient is poison where `exact` promises that nothing is left, and
-- something is.
abbrev pub divided : Division → Flags → ℕ → ℕ → ℕ → Value
divided UDiv flags N a b = exactly flags (divides b a) (bits N (a / b))
divided SDiv flags N a b =
    let y = signed N a in
    let z = signed N b in
    exactly flags (divides (unsigned_abs z) (unsigned_abs y)) (bits N (residue N (quotient y z)))
divided URem flags N a b = bits N (a % b)
divided SRem flags N a b = bits N (residue N (remainder (signed N a) (signed N b)))

-- A shift to the right: the floor of a number, or of a signed one, by 2 ^ b; poison where b is not below N, and where
-- `exact` promises that 2 ^ b divides it and it doesn't.
abbrev pub floor : Bool → Bool → ℕ → ℕ → ℕ → Value
floor exact false N a b = shifts.lshr (record no_flags { exact = exact }) N a b
floor exact true N a b = shifts.ashr (record no_flags { exact = exact }) N a b

-- the number n of N bits shifted right by b: with zeros coming in, or, read as signed, with its highest bit
abbrev pub moved_back : Bool → ℕ → ℕ → ℕ → ℕ
moved_back is_signed N n b =
    (n + bit (is_signed && nat_le (2 ^ (N - 1)) n) * (2 ^ (N + b) - 2 ^ N)) / 2 ^ b

abbrev pub bitwise : Bitwise → ℕ → ℕ → ℕ
bitwise And a b = bit_and a b
bitwise Or a b = bit_or a b
bitwise Xor a b = bit_xor a b

-- the smaller or the larger of two numbers of N bits
abbrev pub extreme : Extreme → ℕ → ℕ → ℕ → ℕ
extreme UMin N a b = smaller false N a b
extreme UMax N a b = larger false N a b
extreme SMin N a b = smaller true N a b
extreme SMax N a b = larger true N a b

-- the number n of N bits extended to M bits: with zeros, or, read as signed, with its highest bit
abbrev pub extended : Bool → ℕ → ℕ → ℕ → ℕ
extended false N M n = n
extended true N M n = residue M (signed N n)

-- `or disjoint`: the operands are promised to have no 1 at the same place
abbrev pub promises_disjoint : Bitwise → Flags → Bool
promises_disjoint And flags = false
promises_disjoint Or flags = flags.disjoint
promises_disjoint Xor flags = false

-- the predicate is the negation of one that a single test decides: equal, or less
abbrev pub is_negation : Pred → Bool
is_negation Eq = false
is_negation Ne = true
is_negation Ugt = false
is_negation Uge = true
is_negation Ult = false
is_negation Ule = true
is_negation Sgt = false
is_negation Sge = true
is_negation Slt = false
is_negation Sle = true
