-- Limits of what is counted in 32 bits.
use Rattle.std.specs.Prelude.{◌<◌, ◌^◌, length}
use Rattle.ir_core.specs.declared.instruction.Op.{Op}
use Rattle.ir_core.specs.declared.instruction.Op.TheVariants.{Binary, Compare, Unary, Select, Convert, Freeze, Phi}

-- a phi has fewer than 2^32 entries
abbrev pub HasFewEntries : Op → Type 0
HasFewEntries (Phi entries) = length entries < 2 ^ 32
HasFewEntries (Binary op flags x y) = Unit {0}
HasFewEntries (Compare pred samesign width x y) = Unit {0}
HasFewEntries (Unary op truth x) = Unit {0}
HasFewEntries (Select c x y) = Unit {0}
HasFewEntries (Convert cast flags from x) = Unit {0}
HasFewEntries (Freeze x) = Unit {0}
