-- The limits within which rule files are read.
use Rattle.std.specs.Prelude.{ℕ, ◌≤◌}

pub record Limits : Type 0 where
  -- the most bytes of a name
  pub name_bytes : ℕ
  -- the most open parentheses and pending unary operators at a token
  pub nested : ℕ
  -- the most statements of a half
  pub statements : ℕ

-- the limits of this reader
abbrev pub rule_limits : Limits
rule_limits = record { name_bytes = 200; nested = 32; statements = 32 }

-- no limit is more than that of the wider ones
pub record AreWithin (wider limits : Limits) : Type 0 where
  pub name_bytes : limits.name_bytes ≤ wider.name_bytes
  pub nested : limits.nested ≤ wider.nested
  pub statements : limits.statements ≤ wider.statements
