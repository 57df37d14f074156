-- The limits of what is decided.
use Rattle.std.specs.Prelude.{ℕ}

-- the most typings of a rule that are decided; of a rule that has more, none is
abbrev pub most_typings : ℕ
most_typings = 4096
