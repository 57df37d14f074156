-- `shl`, `lshr` and `ashr` over iN, by whole numbers (LLVM Language Reference, "Bitwise Binary Operations").
use Rattle.std.specs.Prelude.{ℕ, ◌/◌, ◌^◌, if◌then◌else◌, nat_le, pos, ◌*ℤ◌}
use Rattle.std.specs.Int.{int_div_euclid}
use Rattle.ops.specs.declared.value.Value.{Value}
use Rattle.ops.specs.declared.value.Value.TheVariants.{Poison}
use Rattle.ops.specs.declared.opcode.Flags.{Flags}
use Rattle.ops.specs.Integer.{bits, signed, residue}
use Rattle.ops.specs.Arithmetic.{arithmetic}
use Rattle.ops.specs.Division.{divides, exactly}

-- "shl": a * 2^b, with nuw and nsw as in a product; poison where b is not below N
unfoldable pub shl : Flags → ℕ → ℕ → ℕ → Value
shl flags N a b = if nat_le N b then Poison else arithmetic flags N (pos a *ℤ pos (2 ^ b)) (signed N a *ℤ pos (2 ^ b))

-- "lshr": a / 2^b, rounded down; poison where b is not below N
unfoldable pub lshr : Flags → ℕ → ℕ → ℕ → Value
lshr flags N a b = if nat_le N b then Poison else exactly flags (divides (2 ^ b) a) (bits N (a / 2 ^ b))

-- "ashr": the signed number / 2^b, rounded down; poison where b is not below N
unfoldable pub ashr : Flags → ℕ → ℕ → ℕ → Value
ashr flags N a b =
    if nat_le N b
    then Poison
    else exactly flags (divides (2 ^ b) a) (bits N (residue N (int_div_euclid (signed N a) (pos (2 ^ b)))))
