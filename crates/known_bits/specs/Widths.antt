-- Words of the widths at which operands are read.
use Rattle.std.specs.Prelude.{◌≡◌, ℕ, List, length}
use Rattle.ops.specs.Conversion.{CastFits}
use Rattle.circuits.specs.declared.known_bit.KnownBit.{KnownBit}
use Rattle.ir_core.specs.declared.instruction.Op.{Op}
use Rattle.ir_core.specs.declared.instruction.Op.TheVariants.{Binary, Compare, Unary, Select, Convert, Freeze, Phi}
use Rattle.ir_core.specs.declared.operand.Operand.{Operand}

-- `known M x` has M bits for each operand x by whose bits those of the result are known, and a cast fits its widths
abbrev pub HaveWidths : (ℕ → Operand → List KnownBit) → ℕ → Op → Type 0
HaveWidths known N (Binary op flags x y) = (length (known N x) ≡ N) × (length (known N y) ≡ N)
HaveWidths known N (Select condition x y) = (length (known N x) ≡ N) × (length (known N y) ≡ N)
HaveWidths known N (Convert cast flags M x) = (length (known M x) ≡ M) × CastFits cast M N
HaveWidths known N (Compare pred samesign M x y) = Unit {0}
HaveWidths known N (Unary op truth x) = Unit {0}
HaveWidths known N (Freeze x) = Unit {0}
HaveWidths known N (Phi entries) = Unit {0}
