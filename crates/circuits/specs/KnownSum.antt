-- What is known of the bits of a sum.
use Rattle.std.specs.Prelude.{List, [], ◌∷◌}
use Rattle.circuits.specs.declared.known_bit.KnownBit.{KnownBit}
use Rattle.circuits.specs.Kleene.{known_and, known_or, known_xor}

-- of the carry of two bits and a carry
abbrev pub known_carry : KnownBit → KnownBit → KnownBit → KnownBit
known_carry a b carry = known_or (known_and a b) (known_and carry (known_xor a b))

-- of the sum of two words of one width and a first carry, by what is known of their bits, the lowest first
abbrev pub known_sum : KnownBit → List KnownBit → List KnownBit → List KnownBit
known_sum carry [] y = []
known_sum carry (a ∷ x) [] = []
known_sum carry (a ∷ x) (b ∷ y) = known_xor (known_xor a b) carry ∷ known_sum (known_carry a b carry) x y
