-- When an exact result over whole numbers doesn't fit words (LLVM Language Reference, the flags `nuw` and `nsw`).
use Rattle.std.specs.Prelude.{ℕ, ◌-◌, ◌^◌, ℤ, pos, neg_ℤ, int_le, int_lt, Bool, true, false, ◌&&◌}
use Rattle.circuits.specs.Word.{signed}

-- the whole number that a word's number is, read as unsigned or, in two's complement, as signed
abbrev pub whole : Bool → ℕ → ℕ → ℤ
whole false width n = pos n
whole true width n = signed width n

-- z fits the width: it is from 0 to 2 ^ width - 1, or, signed, from -2 ^ (width - 1) to 2 ^ (width - 1) - 1
abbrev pub fits : Bool → ℕ → ℤ → Bool
fits false width z = int_le (pos 0) z && int_lt z (pos (2 ^ width))
fits true width z = int_le (neg_ℤ (pos (2 ^ (width - 1)))) z && int_lt z (pos (2 ^ (width - 1)))
