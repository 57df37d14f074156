-- The whole numbers, unsigned and signed, that words of truth values stand for.
use Rattle.std.specs.Prelude.{ℕ, ◌+◌, ◌-◌, ◌*◌, ◌^◌, ℤ, pos, ◌-ℤ◌, Bool, true, false, nat_le, if◌then◌else◌, List, [], ◌∷◌, map}

-- a truth value as a binary digit
abbrev pub bit : Bool → ℕ
bit true = 1
bit false = 0

-- A word's number, its lowest bit first: the sum of 2 ^ i over its true bits.
abbrev pub number : List Bool → ℕ
number [] = 0
number (low ∷ higher) = bit low + 2 * number higher

-- the number of a word of literals, where each literal has a value
abbrev pub number_of : {L : Type 0} → (L → Bool) → List L → ℕ
number_of value word = number (map value word)

-- A number of `width` bits read as a signed one, in two's complement: less 2 ^ width where it is at least 2 ^ (width -
-- 1).
abbrev pub signed : ℕ → ℕ → ℤ
signed width n = if nat_le (2 ^ (width - 1)) n then pos n -ℤ pos (2 ^ width) else pos n
