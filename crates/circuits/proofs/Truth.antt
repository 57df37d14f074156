-- Tables of truth values.
use Rattle.circuits.proofs.Common.{◌≡◌, ◌+◌, ◌*◌, Bool, true, false, not, ◌&&◌, ◌||◌, if◌then◌else◌, refl, arith, xor, beq, KnownBit, Zero, One, Unknown, certain, known_not, known_and, known_or, known_xor, known_mux, bit}

-- two truth values differ exactly where one of them is true and not both
pub not_beq : (a b : Bool) → not (beq a b) ≡ xor a b
unfolding mathlib.Core.Bool.xor
not_beq true true = refl
not_beq true false = refl
not_beq false true = refl
not_beq false false = refl

-- the full adder's table
pub adder_total : (a b c : Bool) → bit (xor (xor a b) c) + 2 * bit ((a && b) || (c && xor a b)) ≡ bit a + bit b + bit c
unfolding mathlib.Core.Bool.xor
adder_total true true true = omega arith
adder_total true true false = omega arith
adder_total true false true = omega arith
adder_total true false false = omega arith
adder_total false true true = omega arith
adder_total false true false = omega arith
adder_total false false true = omega arith
adder_total false false false = omega arith

-- Kleene's tables at truth values are the truth tables
pub certain_not : (a : Bool) → certain (not a) ≡ known_not (certain a)
certain_not true = refl
certain_not false = refl

pub certain_and : (a b : Bool) → certain (a && b) ≡ known_and (certain a) (certain b)
certain_and true b = refl
certain_and false b = refl

pub certain_xor : (a b : Bool) → certain (xor a b) ≡ known_xor (certain a) (certain b)
unfolding mathlib.Core.Bool.xor
certain_xor true true = refl
certain_xor true false = refl
certain_xor false true = refl
certain_xor false false = refl

pub certain_mux : (c a b : Bool) → certain (if c then a else b) ≡ known_mux (certain c) (certain a) (certain b)
certain_mux true a b = refl
certain_mux false a b = refl

-- either, by `and` and negations
pub either_known : (a b : KnownBit) → known_not (known_and (known_not a) (known_not b)) ≡ known_or a b
either_known Zero Zero = refl
either_known Zero One = refl
either_known Zero Unknown = refl
either_known One b = refl
either_known Unknown Zero = refl
either_known Unknown One = refl
either_known Unknown Unknown = refl
