-- Entries as written in the way that the grammar asks.
use Rattle.ir_tokens.specs.declared.raw.RawEntry.{RawEntry}
use Rattle.ir_tokens.specs.declared.raw.RawEntry.TheVariants as raw_entries
use Rattle.ir_resolve.specs.Formed.{IsWellWritten}

-- if the entry is a function, it is well written
abbrev pub IsWellWrittenEntry : RawEntry → Type 0
IsWellWrittenEntry (raw_entries.Kept text) = Unit {0}
IsWellWrittenEntry (raw_entries.Function raw) = IsWellWritten raw
