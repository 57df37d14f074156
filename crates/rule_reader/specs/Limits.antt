-- The limit of rule files.
use Rattle.std.specs.Prelude.{ℕ}

-- the most bytes of a rule file
abbrev pub most_bytes : ℕ
most_bytes = 1_048_576
