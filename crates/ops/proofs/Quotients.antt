-- Quotients rounded towards zero, and their remainders, as the code's `/` and `%` give them.
use Rattle.ops.proofs.Common.{ℕ, zero, suc, ◌≡◌, ◌≢◌, ◌/◌, ◌%◌, ◌^◌, ◌<◌, ◌≤◌, ◌∙◌, ap, sym, refl, true, false, eqb, ltb, arith, div-le_self, mod-le, ℤ, pos, negsuc, neg_ℤ, ◌+ℤ◌, ◌-ℤ◌, ◌*ℤ◌, unsigned_abs, int_div, int_rem, FitsSigned, w128, cast_unsigned, cast_signed, ints, quot-rem, quot_is, rem_is, fits_signed_from_abs, to_z-of_z, nat_tests, signed, quotient, remainder, divides, has_no_quotient}
use Rattle.ops.proofs.Signed.{signed-zero}

abs-neg : (n : ℕ) → unsigned_abs (neg_ℤ (pos n)) ≡ n
abs-neg zero = refl
abs-neg (suc n) = refl

ltb-zero : (n : ℕ) → ltb n 0 ≡ false
ltb-zero n = grind (arith, nat_tests)

pub quotient-is : (y z : ℤ) → quotient y z ≡ int_div y z
unfolding mathlib.Core.Bool.xor
quotient-is (pos a) (pos b) = rw (ltb-zero a, ltb-zero b)
quotient-is (pos a) (negsuc b) = rw (ltb-zero a)
quotient-is (negsuc a) (pos b) = rw (ltb-zero b)
quotient-is (negsuc a) (negsuc b) = refl

less_product : (p r y : ℤ) → p +ℤ r ≡ y → y -ℤ p ≡ r
less_product p r y e = omega (arith, ints)

pub remainder-is : (y z : ℤ) → remainder y z ≡ int_rem y z
remainder-is y z = ap (λ q. y -ℤ q *ℤ z) (quotient-is y z) ∙ less_product _ _ y (quot-rem y z)

abs_quotient : (y z : ℤ) → unsigned_abs (int_div y z) ≤ unsigned_abs y
abs_quotient (pos a) (pos b) = div-le_self a b
abs_quotient (pos a) (negsuc b) = rw (abs-neg (a / suc b)) (div-le_self a (suc b))
abs_quotient (negsuc a) (pos b) = rw (abs-neg (suc a / b)) (div-le_self (suc a) b)
abs_quotient (negsuc a) (negsuc b) = div-le_self (suc a) (suc b)

-- a quotient is no larger than the dividend
pub quotient_fits : (y z : ℤ) → unsigned_abs y ≤ 2 ^ 63 → FitsSigned w128 (int_div y z)
quotient_fits y z h = fits_signed_from_abs w128 (int_div y z) (omega (arith, abs_quotient y z, h))

-- the numbers of iN have a quotient and a remainder in the code's type
apart_from_zero : (z : ℤ) → FitsSigned w128 z → z ≢ pos 0 → 0 < cast_unsigned w128 z
apart_from_zero (pos zero) f h = absurd (h refl)
apart_from_zero (pos (suc n)) f h = omega arith
apart_from_zero (negsuc n) f h = omega (arith, f.sfits)

divisor : (N a b : ℕ) → b < 2 ^ N → has_no_quotient N a b ≡ false → signed N b ≢ pos 0
divisor N a b h t e = let z : b ≡ 0 = (signed-zero N b h).0 e in let f : true ≡ false = rw z at t in cc

pub CanDivide-signed : (N a b : ℕ) (y z : ℤ) → b < 2 ^ N → has_no_quotient N a b ≡ false → z ≡ signed N b → unsigned_abs y ≤ 2 ^ 63 → FitsSigned w128 y → FitsSigned w128 z → (0 < cast_unsigned w128 z) × FitsSigned w128 (int_div (cast_signed w128 (cast_unsigned w128 y)) (cast_signed w128 (cast_unsigned w128 z)))
CanDivide-signed N a b y z h t e k f g =
    (apart_from_zero z g (λ w. divisor N a b h t (sym e ∙ w)), rw (to_z-of_z w128 y f, to_z-of_z w128 z g) (quotient_fits y z k))

pub code_quotient : (y z : ℤ) → unsigned_abs y ≤ 2 ^ 63 → FitsSigned w128 y → FitsSigned w128 z → cast_signed w128 (cast_unsigned w128 (int_div (cast_signed w128 (cast_unsigned w128 y)) (cast_signed w128 (cast_unsigned w128 z)))) ≡ quotient y z
code_quotient y z k f g = quot_is w128 y z f g (quotient_fits y z k) ∙ sym (quotient-is y z)

pub code_remainder : (y z : ℤ) → FitsSigned w128 y → FitsSigned w128 z → cast_signed w128 (cast_unsigned w128 (int_rem (cast_signed w128 (cast_unsigned w128 y)) (cast_signed w128 (cast_unsigned w128 z)))) ≡ remainder y z
code_remainder y z f g = rem_is w128 y z f g ∙ sym (remainder-is y z)

-- the remainder is 0 where the divisor divides the dividend
neg_tested : (m : ℕ) → m ≤ 2 ^ 127 → eqb (cast_unsigned w128 (neg_ℤ (pos m))) 0 ≡ eqb m 0
neg_tested zero h = refl
neg_tested (suc m) h = grind (arith, nat_tests)

remainder_tested : (y z : ℤ) → unsigned_abs y ≤ 2 ^ 63 → eqb (cast_unsigned w128 (int_rem y z)) 0 ≡ divides (unsigned_abs z) (unsigned_abs y)
remainder_tested (pos a) z h = refl
remainder_tested (negsuc a) z h = neg_tested (suc a % unsigned_abs z) (omega (arith, mod-le (suc a) (unsigned_abs z), h))

pub code_divides : (y z : ℤ) → unsigned_abs y ≤ 2 ^ 63 → FitsSigned w128 y → FitsSigned w128 z → eqb (cast_unsigned w128 (int_rem (cast_signed w128 (cast_unsigned w128 y)) (cast_signed w128 (cast_unsigned w128 z)))) 0 ≡ divides (unsigned_abs z) (unsigned_abs y)
code_divides y z k f g = rw (to_z-of_z w128 y f, to_z-of_z w128 z g) (remainder_tested y z k)
