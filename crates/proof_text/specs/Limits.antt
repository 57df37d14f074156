-- The limits of proof text.
use Rattle.std.specs.Prelude.{ℕ}

-- the most bytes of a text
abbrev pub most_bytes : ℕ
most_bytes = 67108864

-- the greatest variable of a literal
abbrev pub most_variable : ℕ
most_variable = 2147483647

-- the greatest hint, and the greatest width
abbrev pub most_number : ℕ
most_number = 4294967295
