-- Numbers that a state of 64 bits gives one after the other: a linear congruential generator, of which the upper bits
-- are drawn.
use Rattle.std.specs.Prelude.{ℕ, ◌+◌, ◌*◌, ◌/◌, ◌%◌, ◌^◌}

-- the state after the next draw
unfoldable pub next_state : ℕ → ℕ
next_state s = (s * 6364136223846793005 + 1442695040888963407) % 2 ^ 64

-- what the next draw from state s gives, of the k numbers from 0
unfoldable pub drawn : ℕ → ℕ → ℕ
drawn s k = (next_state s / 2 ^ 33) % k
