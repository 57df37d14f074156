-- What is known of a gate's value by what is known of its operands: Kleene's three-valued tables.
use Rattle.std.specs.Prelude.{Bool, true, false}
use Rattle.circuits.specs.declared.known_bit.KnownBit.{KnownBit}
use Rattle.circuits.specs.declared.known_bit.KnownBit.TheVariants.{Zero, One, Unknown}

-- a truth value, which is known
abbrev pub certain : Bool → KnownBit
certain true = One
certain false = Zero

abbrev pub known_not : KnownBit → KnownBit
known_not Zero = One
known_not One = Zero
known_not Unknown = Unknown

-- 0 where an operand is 0, whatever the other is
abbrev pub known_and : KnownBit → KnownBit → KnownBit
known_and Zero b = Zero
known_and One b = b
known_and Unknown Zero = Zero
known_and Unknown One = Unknown
known_and Unknown Unknown = Unknown

-- 1 where an operand is 1, whatever the other is
abbrev pub known_or : KnownBit → KnownBit → KnownBit
known_or Zero b = b
known_or One b = One
known_or Unknown Zero = Unknown
known_or Unknown One = One
known_or Unknown Unknown = Unknown

-- known where both operands are
abbrev pub known_xor : KnownBit → KnownBit → KnownBit
known_xor Zero b = b
known_xor One b = known_not b
known_xor Unknown b = Unknown

-- the value on which both agree
abbrev pub known_agreed : KnownBit → KnownBit → KnownBit
known_agreed Zero Zero = Zero
known_agreed Zero One = Unknown
known_agreed Zero Unknown = Unknown
known_agreed One Zero = Unknown
known_agreed One One = One
known_agreed One Unknown = Unknown
known_agreed Unknown b = Unknown

-- the first arm where the condition is 1, the second where it is 0, and else the value on which both agree
abbrev pub known_mux : KnownBit → KnownBit → KnownBit → KnownBit
known_mux Zero a b = b
known_mux One a b = a
known_mux Unknown a b = known_agreed a b
