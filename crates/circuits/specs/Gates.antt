-- How many gates the word circuits add at most, for words of `width` bits.
use Rattle.std.specs.Prelude.{ℕ, zero, suc, ◌+◌, ◌-◌, ◌*◌, ◌^◌, nat_lt, min, if◌then◌else◌}

-- Whether some bit is true: one gate a bit.
abbrev pub any_gates : ℕ → ℕ
any_gates width = width

-- A choice of two words: one gate a bit.
abbrev pub select_gates : ℕ → ℕ
select_gates width = width

-- A sum, a difference or a negation: a full adder a bit, of five gates.
abbrev pub adder_gates : ℕ → ℕ
adder_gates width = 5 * width

-- Whether a number is below another, unsigned or signed: two gates a bit.
abbrev pub comparison_gates : ℕ → ℕ
comparison_gates width = 2 * width

-- The smaller or the larger of two numbers: a comparison, and a choice by it.
abbrev pub extreme_gates : ℕ → ℕ
extreme_gates width = comparison_gates width + select_gates width

-- Whether two numbers are equal: two gates a bit.
abbrev pub equality_gates : ℕ → ℕ
equality_gates width = 2 * width

-- The least k with width ≤ 2 ^ k: one more as the width passes each power of two.
unfoldable pub stages : ℕ → ℕ
stages zero = 0
stages (suc fewer) = let k = stages fewer in if nat_lt fewer (2 ^ k) then k else k + 1

-- A shift by a word of `amount_width` bits: a choice for each bit of the amount as far as the stages go, the test
-- whether some higher bit of the amount is true, and a choice by it.
abbrev pub shift_gates : ℕ → ℕ → ℕ
shift_gates width amount_width =
    select_gates width * min (stages width) amount_width + any_gates (amount_width - stages width) + select_gates width
