-- `add`, `sub` and `mul` over iN, by whole numbers (LLVM Language Reference, "Binary Operations").
use Rattle.std.specs.Prelude.{ℕ, if◌then◌else◌, not, ◌&&◌, ◌||◌, ℤ, pos, ◌+ℤ◌, ◌-ℤ◌, ◌*ℤ◌}
use Rattle.ops.specs.declared.value.Value.{Value}
use Rattle.ops.specs.declared.value.Value.TheVariants.{Poison}
use Rattle.ops.specs.declared.opcode.Flags.{Flags}
use Rattle.ops.specs.Integer.{bits, signed, fits_unsigned, fits_signed, residue}

-- u is the result over unsigned numbers, and s over signed ones: u modulo 2^N, but poison with nuw where u does not
-- fit, and with nsw where s does not
unfoldable pub arithmetic : Flags → ℕ → ℤ → ℤ → Value
arithmetic flags N u s =
    if (flags.nuw && not (fits_unsigned N u)) || (flags.nsw && not (fits_signed N s))
    then Poison
    else bits N (residue N u)

-- "add": the sum
abbrev pub add : Flags → ℕ → ℕ → ℕ → Value
add flags N a b = arithmetic flags N (pos a +ℤ pos b) (signed N a +ℤ signed N b)

-- "sub": the difference
abbrev pub sub : Flags → ℕ → ℕ → ℕ → Value
sub flags N a b = arithmetic flags N (pos a -ℤ pos b) (signed N a -ℤ signed N b)

-- "mul": the product
abbrev pub mul : Flags → ℕ → ℕ → ℕ → Value
mul flags N a b = arithmetic flags N (pos a *ℤ pos b) (signed N a *ℤ signed N b)
