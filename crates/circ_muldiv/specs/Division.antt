-- Quotients and remainders over whole numbers (LLVM Language Reference, `sdiv` and `srem`).
use Rattle.std.specs.Prelude.{ℕ, ◌^◌, ◌/◌, ℤ, pos, neg_ℤ, ◌-ℤ◌, ◌*ℤ◌, unsigned_abs, if◌then◌else◌}
use Rattle.std.specs.Bool.{xor}
use Rattle.std.specs.Int.{int_rem_euclid, is_negative}

-- the quotient rounded towards zero: the floor quotient of the absolute values, negative where just one of y and z is
abbrev pub quotient : ℤ → ℤ → ℤ
quotient y z =
    let q = unsigned_abs y / unsigned_abs z in
    if xor (is_negative y) (is_negative z) then neg_ℤ (pos q) else pos q

-- the dividend less quotient times divisor: it has the sign of the dividend
abbrev pub remainder : ℤ → ℤ → ℤ
remainder y z = y -ℤ quotient y z *ℤ z

-- z modulo 2 ^ width: the remainder that is not negative
unfoldable pub residue : ℕ → ℤ → ℕ
residue width z = unsigned_abs (int_rem_euclid z (pos (2 ^ width)))
