-- What contracts know of a sink, and what a call of `put` does to it.
use Rattle.std.specs.Prelude.{◌≡◌, ℕ, ◌≤◌, List, ◌++◌, take, length, Option, option_map}
use Rattle.outside.specs.Faults.{raised}

pub record SinkState : Type 0 where
  -- all bytes written so far, where the implementation tells them
  pub written : Option (List ℕ)
  -- how many puts there were, failed ones among them, where the implementation tells it; it saturates at 2 ^ 64 - 1
  pub puts : Option ℕ
  -- how many faults there were; the count saturates at 2 ^ 64 - 1
  pub faults : ℕ

-- The count of faults does not fall.
abbrev pub SinkFollows : SinkState → SinkState → Type 0
SinkFollows old new = old.faults ≤ new.faults

-- One put wrote exactly this piece: where the bytes are told, the piece was appended to them, and where puts are
-- counted, the count was raised.
abbrev pub Extends : SinkState → SinkState → List ℕ → Type 0
Extends old new piece = (new.written ≡ option_map (λ told. told ++ piece) old.written) × (new.puts ≡ option_map raised old.puts)

-- One put wrote the whole piece, and there was no fault.
abbrev pub Appends : SinkState → SinkState → List ℕ → Type 0
Appends old new piece = Extends old new piece × (new.faults ≡ old.faults)

-- One put wrote a prefix of the piece, maybe all of it.
abbrev pub AppendsPrefix : SinkState → SinkState → List ℕ → Type 0
AppendsPrefix old new piece = (count : ℕ) × (count ≤ length piece) × Extends old new (take count piece)
