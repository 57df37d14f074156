-- Numbers as written (LLVM Language Reference, "Simple Constants").
use Rattle.std.specs.Prelude.{ℕ, ◌+◌, ◌-◌, ◌*◌, ◌^◌, ◌==◌, ℤ, pos, neg_ℤ, int_le, int_lt, Bool, ◌&&◌, ◌||◌, if◌then◌else◌, List, [], ◌∷◌, fold, Option, Some, None}
use Rattle.ops.specs.Integer.{residue}
use Rattle.ops.specs.Number.{Number}
use Rattle.scan.specs.Bytes.{is_digit, are_digits, is_run_behind}

-- the number that decimal digits spell
abbrev pub decimal_value : List ℕ → ℕ
decimal_value digits = fold (λ n digit. 10 * n + (digit - 48)) 0 digits

-- at least one digit, maybe with a `-` before them
unfoldable pub is_number : List ℕ → Bool
is_number text = are_digits text || is_run_behind 45 is_digit text

-- the number that digits, maybe with a `-` before them, spell
unfoldable pub number_of : List ℕ → ℤ
number_of [] = pos 0
number_of (b ∷ digits) = if b == 45 then neg_ℤ (pos (decimal_value digits)) else pos (decimal_value (b ∷ digits))

-- a number of iN may be written unsigned or in two's complement: from -2^(N-1) to 2^N - 1
unfoldable pub is_in_range : ℕ → ℤ → Bool
is_in_range N z = int_le (neg_ℤ (pos (2 ^ (N - 1)))) z && int_lt z (pos (2 ^ N))

-- the number of iN that is written: the number modulo 2^N, if it is in range
unfoldable pub constant_of : List ℕ → ℕ → Option Number
constant_of digits N = if is_in_range N (number_of digits) then Some (record { width = N; number = residue N (number_of digits) }) else None
