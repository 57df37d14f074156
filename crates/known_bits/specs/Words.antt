-- Words of which some bits are known.
use Rattle.std.specs.Prelude.{ℕ, Bool, true, false, List, [], ◌∷◌, map, replicate}
use Rattle.circuits.specs.declared.known_bit.KnownBit.{KnownBit}
use Rattle.circuits.specs.declared.known_bit.KnownBit.TheVariants.{Zero, One, Unknown}
use Rattle.circuits.specs.Word.{number}
use Rattle.known_bits.specs.declared.words.Known.{Known}

-- so many bits of which nothing is known
abbrev pub unknown : ℕ → List KnownBit
unknown N = replicate N Unknown

-- a gate at each place of two words
abbrev pub bit_by_bit : (KnownBit → KnownBit → KnownBit) → List KnownBit → List KnownBit → List KnownBit
bit_by_bit gate [] y = []
bit_by_bit gate (a ∷ x) [] = []
bit_by_bit gate (a ∷ x) (b ∷ y) = gate a b ∷ bit_by_bit gate x y

-- the highest bit
abbrev pub top_of : List KnownBit → KnownBit
top_of [] = Unknown
top_of (a ∷ []) = a
top_of (a ∷ b ∷ x) = top_of (b ∷ x)

-- the bit is known to have the value
abbrev pub is_known_as : Bool → KnownBit → Bool
is_known_as false Zero = true
is_known_as false One = false
is_known_as false Unknown = false
is_known_as true Zero = false
is_known_as true One = true
is_known_as true Unknown = false

-- the numbers whose bits are 1 where the word's are known to be 0, and where they are known to be 1
abbrev pub known_of : List KnownBit → Known
known_of x = record { zeros = number (map (is_known_as false) x); ones = number (map (is_known_as true) x) }
