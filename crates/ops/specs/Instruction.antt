-- What one instruction or intrinsic with two operands of iN does (LLVM Language Reference, "Binary Operations",
-- "Bitwise Binary Operations", "Standard C/C++ Library Intrinsics").
use Rattle.std.specs.Prelude.{ℕ, bit_and, bit_xor}
use Rattle.ops.specs.declared.value.Value.{Value}
use Rattle.ops.specs.declared.value.Value.TheVariants.{Poison, Bits}
use Rattle.ops.specs.declared.value.Effect.{Effect}
use Rattle.ops.specs.declared.value.Effect.TheVariants.{Gives}
use Rattle.ops.specs.declared.opcode.Opcode.{Opcode}
use Rattle.ops.specs.declared.opcode.Opcode.TheVariants.{Add, Sub, Mul, UDiv, SDiv, URem, SRem, Shl, LShr, AShr, And, Or, Xor, UMin, UMax, SMin, SMax}
use Rattle.ops.specs.declared.opcode.Flags.{Flags}
use Rattle.ops.specs.Integer.{bits}
use Rattle.ops.specs.Arithmetic.{add, sub, mul}
use Rattle.ops.specs.Division.{udiv, sdiv, urem, srem, unsigned_poison, signed_poison}
use Rattle.ops.specs.Shifts.{shl, lshr, ashr}
use Rattle.ops.specs.Bitwise.{or}
use Rattle.ops.specs.Extremes.{umin, umax, smin, smax}

-- the instruction's effect at the numbers a and b
unfoldable pub on_numbers : Opcode → Flags → ℕ → ℕ → ℕ → Effect
on_numbers Add flags N a b = Gives (add flags N a b)
on_numbers Sub flags N a b = Gives (sub flags N a b)
on_numbers Mul flags N a b = Gives (mul flags N a b)
on_numbers UDiv flags N a b = udiv flags N a b
on_numbers SDiv flags N a b = sdiv flags N a b
on_numbers URem flags N a b = urem N a b
on_numbers SRem flags N a b = srem N a b
on_numbers Shl flags N a b = Gives (shl flags N a b)
on_numbers LShr flags N a b = Gives (lshr flags N a b)
on_numbers AShr flags N a b = Gives (ashr flags N a b)
on_numbers And flags N a b = Gives (bits N (bit_and a b))
on_numbers Or flags N a b = Gives (or flags N a b)
on_numbers Xor flags N a b = Gives (bits N (bit_xor a b))
on_numbers UMin flags N a b = Gives (bits N (umin a b))
on_numbers UMax flags N a b = Gives (bits N (umax a b))
on_numbers SMin flags N a b = Gives (bits N (smin N a b))
on_numbers SMax flags N a b = Gives (bits N (smax N a b))

-- the instruction's effect where an operand is poison, b being the right one: poison, except for divisions
unfoldable pub on_poison : Opcode → ℕ → Value → Effect
on_poison Add N b = Gives Poison
on_poison Sub N b = Gives Poison
on_poison Mul N b = Gives Poison
on_poison UDiv N b = unsigned_poison b
on_poison SDiv N b = signed_poison N b
on_poison URem N b = unsigned_poison b
on_poison SRem N b = signed_poison N b
on_poison Shl N b = Gives Poison
on_poison LShr N b = Gives Poison
on_poison AShr N b = Gives Poison
on_poison And N b = Gives Poison
on_poison Or N b = Gives Poison
on_poison Xor N b = Gives Poison
on_poison UMin N b = Gives Poison
on_poison UMax N b = Gives Poison
on_poison SMin N b = Gives Poison
on_poison SMax N b = Gives Poison

-- the instruction's effect at two operands
unfoldable pub instruction : Opcode → Flags → ℕ → Value → Value → Effect
instruction op flags N (Bits a) (Bits b) = on_numbers op flags N a.number b.number
instruction op flags N (Bits a) Poison = on_poison op N Poison
instruction op flags N Poison b = on_poison op N b
