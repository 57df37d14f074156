-- The limits of the options, and their defaults.
use Rattle.std.specs.Prelude.{ℕ, ◌≤◌}
use Rattle.command_line.specs.declared.command.Command.{Command}
use Rattle.command_line.specs.declared.command.Command.TheVariants.{Verify, Optimise, Run, Load, Recheck}

-- the most clauses that a search may learn
abbrev pub most_conflicts : ℕ
most_conflicts = 1000000

-- the most rewrites of a function
abbrev pub most_steps : ℕ
most_steps = 100000

-- the most blocks that a run may enter
abbrev pub most_blocks : ℕ
most_blocks = 100000000

-- the greatest number from which a module is generated
abbrev pub most_number : ℕ
most_number = 4294967295

-- the default of `--conflicts`
abbrev pub default_conflicts : ℕ
default_conflicts = 20000

-- the default of `--steps`
abbrev pub default_steps : ℕ
default_steps = 10000

-- the numbers are within their limits
abbrev pub IsWithinLimits : Command → Type 0
IsWithinLimits (Verify rules options) = options.conflicts ≤ most_conflicts
IsWithinLimits (Optimise rules source logs options) = (options.conflicts ≤ most_conflicts) × (options.steps ≤ most_steps)
IsWithinLimits (Run source name arguments options) = options.blocks ≤ most_blocks
IsWithinLimits (Load number) = number ≤ most_number
IsWithinLimits (Recheck rules logs options) = options.conflicts ≤ most_conflicts
