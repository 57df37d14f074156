-- A sink in memory, some of whose puts fail.
use Rattle.std.specs.Prelude.{ℕ, ◌-◌, ◌<◌, ◌==◌, List, ◌++◌, length, Option, option_map, find}
use Rattle.outside.specs.Faults.{raised}
use Rattle.outside.specs.declared.memory_sink.FailingPut.{FailingPut}

pub record MemorySinkState : Type 0 where
  pub written : List ℕ
  -- how many more bytes there is room for
  pub room : ℕ
  pub failing : List FailingPut
  -- how many puts there were, which is the number of the next one; the count saturates at 2 ^ 64 - 1
  pub puts : ℕ
  pub faults : ℕ

-- how many bytes the next put takes at most, if it is listed to fail: by the first entry with its number
abbrev pub listed : MemorySinkState → Option ℕ
listed sink = option_map (λ put. put.most) (find (λ put. put.number == sink.puts) sink.failing)

-- The piece is longer than the room that is left.
abbrev pub IsTooLong : MemorySinkState → List ℕ → Type 0
IsTooLong sink piece = sink.room < length piece

-- the sink after a put that took these bytes
abbrev pub took : MemorySinkState → List ℕ → MemorySinkState
took sink bytes = record sink { written = sink.written ++ bytes; room = sink.room - length bytes; puts = raised sink.puts }

-- the sink after a put that took these bytes and failed
abbrev pub failed_after : MemorySinkState → List ℕ → MemorySinkState
failed_after sink bytes = record (took sink bytes) { faults = raised sink.faults }
