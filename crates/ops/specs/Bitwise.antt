-- `or` over iN (LLVM Language Reference, "Bitwise Binary Operations").
use Rattle.std.specs.Prelude.{ℕ, if◌then◌else◌, not, ◌&&◌, ◌==◌, bit_and, bit_or}
use Rattle.ops.specs.declared.value.Value.{Value}
use Rattle.ops.specs.declared.value.Value.TheVariants.{Poison}
use Rattle.ops.specs.declared.opcode.Flags.{Flags}
use Rattle.ops.specs.Integer.{bits}

-- "or": bit by bit; with disjoint poison where some bit is 1 in both
unfoldable pub or : Flags → ℕ → ℕ → ℕ → Value
or flags N a b = if flags.disjoint && not (bit_and a b == 0) then Poison else bits N (bit_or a b)
