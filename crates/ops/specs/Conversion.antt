-- `trunc`, `zext` and `sext` (LLVM Language Reference, "Conversion Operations").
use Rattle.std.specs.Prelude.{ℕ, ◌%◌, ◌^◌, ◌<◌, Bool, false, if◌then◌else◌, not, nat_le, ◌&&◌, ◌||◌}
use Rattle.ops.specs.declared.value.Value.{Value}
use Rattle.ops.specs.declared.value.Value.TheVariants.{Poison, Bits}
use Rattle.ops.specs.declared.opcode.Flags.{Flags}
use Rattle.ops.specs.declared.conversion.Cast.{Cast}
use Rattle.ops.specs.declared.conversion.Cast.TheVariants.{Trunc, ZExt, SExt}
use Rattle.ops.specs.Integer.{bits, signed, fits_signed, negative, residue}

-- a cast goes to a strictly smaller width, or to a strictly larger one
abbrev pub CastFits : Cast → ℕ → ℕ → Type 0
CastFits Trunc from to = to < from
CastFits ZExt from to = from < to
CastFits SExt from to = from < to

-- "trunc .. to": the number modulo 2^to; "zext .. to": the number; "sext .. to": the signed number, modulo 2^to
unfoldable pub converted : Cast → ℕ → ℕ → ℕ → ℕ
converted Trunc from to a = a % 2 ^ to
converted ZExt from to a = a
converted SExt from to a = residue to (signed from a)

-- A flag is broken. "trunc nuw": a bit that is cut off is not 0, so that the number is not below 2^to. "trunc nsw": a
-- bit that is cut off differs from the sign bit of the result, so that the signed number is none of `to` bits. "zext
-- nneg": the number is negative.
unfoldable pub breaks_flags : Cast → Flags → ℕ → ℕ → ℕ → Bool
breaks_flags Trunc flags from to a = (flags.nuw && nat_le (2 ^ to) a) || (flags.nsw && not (fits_signed to (signed from a)))
breaks_flags ZExt flags from to a = flags.nneg && negative from a
breaks_flags SExt flags from to a = false

-- the cast of a value of width `from`: poison where it is poison, and where it breaks a flag
unfoldable pub conversion : Cast → Flags → ℕ → ℕ → Value → Value
conversion cast flags from to Poison = Poison
conversion cast flags from to (Bits a) =
    if breaks_flags cast flags from to a.number then Poison else bits to (converted cast from to a.number)
