-- `llvm.umin`, `llvm.umax`, `llvm.smin` and `llvm.smax` over iN (LLVM Language Reference, "Standard C/C++ Library
-- Intrinsics").
use Rattle.std.specs.Prelude.{ℕ, if◌then◌else◌, min, max, int_lt}
use Rattle.ops.specs.Integer.{signed}

-- "llvm.umin": the smaller of a and b as unsigned numbers
abbrev pub umin : ℕ → ℕ → ℕ
umin a b = min a b

-- "llvm.umax": the larger of a and b as unsigned numbers
abbrev pub umax : ℕ → ℕ → ℕ
umax a b = max a b

-- "llvm.smin": the smaller of a and b as signed numbers
abbrev pub smin : ℕ → ℕ → ℕ → ℕ
smin N a b = if int_lt (signed N a) (signed N b) then a else b

-- "llvm.smax": the larger of a and b as signed numbers
abbrev pub smax : ℕ → ℕ → ℕ → ℕ
smax N a b = if int_lt (signed N a) (signed N b) then b else a
