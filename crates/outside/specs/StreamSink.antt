-- A stream as a sink.
use Rattle.std.specs.Prelude.{ℕ, ◌≤◌, List, length, take, Option}
use Rattle.std.specs.Io.KnownBytes.{Appends}

pub record StreamSinkState : Type 0 where
  -- what the stream holds, where it tells that, as a stream in memory does
  pub contents : Option (List ℕ)
  -- how many puts there were, failed ones among them; the count saturates at 2 ^ 64 - 1
  pub puts : ℕ
  pub faults : ℕ

-- A prefix of the piece, maybe all of it, was appended to what the stream holds, where it tells that.
abbrev pub GainsPrefix : Option (List ℕ) → Option (List ℕ) → List ℕ → Type 0
GainsPrefix old new piece = (count : ℕ) × (count ≤ length piece) × Appends old new (take count piece)
