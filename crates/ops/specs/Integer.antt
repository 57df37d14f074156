-- Numbers of iN, unsigned and in two's complement (LLVM Language Reference, "Integer Type").
use Rattle.std.specs.Prelude.{ℕ, ◌-◌, ◌^◌, Bool, if◌then◌else◌, ◌&&◌, nat_lt, nat_le}
use Rattle.std.specs.Prelude.{ℤ, pos, neg_ℤ, ◌-ℤ◌, int_le, int_lt, unsigned_abs}
use Rattle.std.specs.Int.{int_rem_euclid}
use Rattle.ops.specs.declared.value.Value.{Value}
use Rattle.ops.specs.declared.value.Value.TheVariants.{Bits}

-- the number n of iN, as a value
abbrev pub bits : ℕ → ℕ → Value
bits N n = Bits (record { width = N; number = n })

-- a, read in two's complement: a, less 2^N where a is at least 2^(N-1)
unfoldable pub signed : ℕ → ℕ → ℤ
signed N a = if nat_lt a (2 ^ (N - 1)) then pos a else pos a -ℤ pos (2 ^ N)

-- a is negative in two's complement: its highest bit, the sign bit, is 1
abbrev pub negative : ℕ → ℕ → Bool
negative N a = nat_le (2 ^ (N - 1)) a

-- the number that is -1 in two's complement, and the one that is the least, -2^(N-1)
abbrev pub minus_one : ℕ → ℕ
minus_one N = 2 ^ N - 1

abbrev pub least : ℕ → ℕ
least N = 2 ^ (N - 1)

-- z is from 0 to 2^N - 1
unfoldable pub fits_unsigned : ℕ → ℤ → Bool
fits_unsigned N z = int_le (pos 0) z && int_lt z (pos (2 ^ N))

-- z is from -2^(N-1) to 2^(N-1) - 1
unfoldable pub fits_signed : ℕ → ℤ → Bool
fits_signed N z = int_le (neg_ℤ (pos (2 ^ (N - 1)))) z && int_lt z (pos (2 ^ (N - 1)))

-- z modulo 2^N: the remainder that is not negative
unfoldable pub residue : ℕ → ℤ → ℕ
residue N z = unsigned_abs (int_rem_euclid z (pos (2 ^ N)))
