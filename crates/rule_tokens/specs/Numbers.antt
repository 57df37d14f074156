-- Numbers and types as written.
use Rattle.std.specs.Int.{saturate_signed, w128}
use Rattle.std.specs.Prelude.{◌≡◌, ℕ, ◌+◌, ◌-◌, ◌*◌, ◌≤◌, ◌==◌, ℤ, pos, neg_ℤ, nat_le, IsTrue, ◌&&◌, if◌then◌else◌, List, [], ◌∷◌, fold, Option, Some, None}
use Rattle.scan.specs.Bytes.{are_digits}

-- the number that decimal digits spell
abbrev pub decimal_value : List ℕ → ℕ
decimal_value digits = fold (λ n digit. 10 * n + (digit - 48)) 0 digits

-- the number that a literal spells, digits maybe behind a `-`
abbrev pub literal_number : List ℕ → ℤ
literal_number [] = pos 0
literal_number (b ∷ digits) = if b == 45 then neg_ℤ (pos (decimal_value digits)) else pos (decimal_value (b ∷ digits))

-- the number that a rule holds of a literal, in 128 bits: saturated, and no width fits a literal beyond 128 bits, nor
-- what is held of it
unfoldable pub literal_value : List ℕ → ℤ
literal_value text = saturate_signed w128 (literal_number text)

-- a type: `i` and the digits of a width from 1 to 64
abbrev pub IsWrittenType : List ℕ → ℕ → Type 0
IsWrittenType text width = (digits : List ℕ)
    × (text ≡ 105 ∷ digits) × IsTrue (are_digits digits)
    × (decimal_value digits ≡ width) × (1 ≤ width) × (width ≤ 64)

-- the width of a type, if the word is one
unfoldable pub type_in : List ℕ → Option ℕ
type_in [] = None
type_in (b ∷ digits) =
    if (b == 105) && are_digits digits && nat_le 1 (decimal_value digits) && nat_le (decimal_value digits) 64
    then Some (decimal_value digits) else None
