-- How many gates the counts of bits add at most, for words of `width` bits.
use Rattle.std.specs.Prelude.{ℕ, ◌+◌, ◌*◌}
use Rattle.circuits.specs.Gates.{adder_gates, stages}

-- How many bits are true: for each bit an addition to a counter, which has as many digits as each number up to the
-- width needs.
abbrev pub count_gates : ℕ → ℕ
count_gates width = adder_gates (stages (width + 1)) * width

-- How many bits are false before the first that is true: for each bit a gate that says whether it is one of these, and
-- how many of these gates are true.
abbrev pub zeros_gates : ℕ → ℕ
zeros_gates width = width + count_gates width
