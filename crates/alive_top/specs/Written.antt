-- What was written to a sink whose puts may fail.
use Rattle.std.specs.Prelude.{◌≡◌, ◌⊎◌, ℕ, List, Option, None, Some}
use Rattle.outside.specs.Faults.{Rose}
use Rattle.outside.specs.Sink.{SinkState, Appends, AppendsPrefix}

-- the sink's count of faults rose at its one put, and it gained a prefix of the text
abbrev pub Failed : SinkState → SinkState → List ℕ → Type 0
Failed old new text = Rose old.faults new.faults × AppendsPrefix old new text

-- by one put the sink gained the line, or a prefix of it where its count of faults rose
abbrev pub Took : SinkState → SinkState → List ℕ → Type 0
Took old new line = Appends old new line ⊎ Failed old new line

-- one put gave the report to the sink, even an empty one; without a report there was no put
abbrev pub Reports : SinkState → SinkState → Option (List ℕ) → Type 0
Reports old new None = new ≡ old
Reports old new (Some report) = Appends old new report

-- there is a report, and the sink failed at the put of it
abbrev pub FailsAtReport : SinkState → SinkState → Option (List ℕ) → Type 0
FailsAtReport old new None = ⊥
FailsAtReport old new (Some report) = Failed old new report

-- the output gained the whole text by one put, and then the error stream the report
abbrev pub WroteAll : SinkState → SinkState → SinkState → SinkState → List ℕ → Option (List ℕ) → Type 0
WroteAll out out' err err' text report = Appends out out' text × Reports err err' report

-- the output failed at its one put, and the error stream got none; or that failed afterwards
abbrev pub WroteSome : SinkState → SinkState → SinkState → SinkState → List ℕ → Option (List ℕ) → Type 0
WroteSome out out' err err' text report = (Failed out out' text × (err' ≡ err)) ⊎ (Appends out out' text × FailsAtReport err err' report)
