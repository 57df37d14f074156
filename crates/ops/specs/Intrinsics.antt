-- Which operations are intrinsics, which modules call, and not instructions with an opcode of their own (LLVM Language
-- Reference, "Intrinsic Functions").
use Rattle.std.specs.Prelude.{Bool, true, false}
use Rattle.ops.specs.declared.opcode.Opcode.{Opcode}
use Rattle.ops.specs.declared.opcode.Opcode.TheVariants.{UMin, UMax, SMin, SMax}

abbrev pub is_intrinsic : Opcode → Bool
is_intrinsic UMin = true
is_intrinsic UMax = true
is_intrinsic SMin = true
is_intrinsic SMax = true
is_intrinsic op = false
