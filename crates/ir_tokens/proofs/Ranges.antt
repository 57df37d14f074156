-- Numbers that are out of range at every width.
use Rattle.ir_tokens.proofs.Common.{◌≡◌, ℕ, ◌-◌, ◌^◌, ◌≤◌, false, List, None, refl, arith, ℤ, pos, negsuc, unsigned_abs, pow_mono, ints, constant_of, is_in_range, number_of}

out_of_range : (N : ℕ) (z : ℤ) → N ≤ 64 → 2 ^ 64 ≤ unsigned_abs z → is_in_range N z ≡ false
unfolding is_in_range
out_of_range N (pos n) le big = let most : 2 ^ N ≤ 2 ^ 64 = pow_mono le in grind (arith, ints)
out_of_range N (negsuc n) le big =
    let less : N - 1 ≤ 63 = omega arith in
    let half : 2 ^ (N - 1) ≤ 2 ^ 63 = pow_mono less in grind (arith, ints)

-- a number of more than 64 bits is a constant of no width
pub no_constant : (digits : List ℕ) (N : ℕ) → N ≤ 64 → 2 ^ 64 ≤ unsigned_abs (number_of digits) → constant_of digits N ≡ None
unfolding constant_of
no_constant digits N le big = rw (out_of_range N (number_of digits) le big) refl
