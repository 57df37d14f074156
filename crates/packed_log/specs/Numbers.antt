-- Numbers of variable length (LEB128): seven bits a byte, the lowest first; the high bit says that more bytes follow.
use Rattle.std.specs.Prelude.{ℕ, zero, suc, ◌+◌, ◌-◌, ◌*◌, nat_lt, if◌then◌else◌, List, [], ◌∷◌}

-- the number that the bytes begin with
abbrev pub first_number : List ℕ → ℕ
first_number [] = 0
first_number (byte ∷ bytes) = if nat_lt byte 128 then byte else (byte - 128) + 128 * first_number bytes

-- the bytes behind that number
abbrev pub behind_number : List ℕ → List ℕ
behind_number [] = []
behind_number (byte ∷ bytes) = if nat_lt byte 128 then bytes else behind_number bytes

-- the first `count` numbers that the bytes hold, one behind another
abbrev pub numbers : ℕ → List ℕ → List ℕ
numbers zero bytes = []
numbers (suc count) bytes = first_number bytes ∷ numbers count (behind_number bytes)

-- the bytes behind these numbers
abbrev pub behind : ℕ → List ℕ → List ℕ
behind zero bytes = bytes
behind (suc count) bytes = behind count (behind_number bytes)

-- the list that the bytes begin with: first its length, then its numbers
abbrev pub first_list : List ℕ → List ℕ
first_list bytes = numbers (first_number bytes) (behind_number bytes)

-- the bytes behind that list
abbrev pub behind_list : List ℕ → List ℕ
behind_list bytes = behind (first_number bytes) (behind_number bytes)
