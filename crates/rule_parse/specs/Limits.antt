-- The limit of how much a rule as written may hold.
use Rattle.std.specs.Prelude.{ℕ}

-- the most operands, literals, names, operators and functions of a rule
abbrev pub most_nodes : ℕ
most_nodes = 256
