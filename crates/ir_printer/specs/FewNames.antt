-- Limits on the number of parameters, blocks and results.
use Rattle.std.specs.Prelude.{◌<◌, ◌^◌, length}
use Rattle.ir_core.specs.Names.{names_of}
use Rattle.ir_core.specs.declared.function.Function.{Function}
use Rattle.ir_core.specs.declared.module.Entry.{Entry}
use Rattle.ir_core.specs.declared.module.Entry.TheVariants as entries

-- the function has fewer than 2 ^ 64 parameters, blocks and results together
abbrev pub HasFewNames : Function → Type 0
HasFewNames f = length (names_of f) < 2 ^ 64

-- so has the entry, if it is a function
abbrev pub EntryHasFewNames : Entry → Type 0
EntryHasFewNames (entries.Kept line) = Unit {0}
EntryHasFewNames (entries.Function f) = HasFewNames f
