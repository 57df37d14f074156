-- Numbers of any size in decimal.
use Rattle.std.specs.Prelude.{ℕ, zero, suc, ◌+◌, List, [], ◌∷◌, map}
use Rattle.std.specs.Int.Digits.{digits_of}

-- the digits of a number, without leading zeros
unfoldable pub numeral : ℕ → List ℕ
numeral zero = 48 ∷ []
numeral (suc n) = map (λ digit. 48 + digit) (digits_of 10 (suc n))
