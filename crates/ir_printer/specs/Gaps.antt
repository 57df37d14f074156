-- What is printed before an entry of a module.
use Rattle.std.specs.Prelude.{ℕ, zero, suc, List, [], Option, Some, slice_get}
use Rattle.ir_core.specs.declared.module.Entry.{Entry}
use Rattle.ir_text.specs.PrintedText.{between_text}

-- what is printed between two entries, if both are there
abbrev pub gap_between : Option Entry → Option Entry → List ℕ
gap_between (Some entry) (Some next) = between_text entry next
gap_between entry next = []

-- what is printed between entry i and the one before it, if there is one
abbrev pub gap_before : List Entry → ℕ → List ℕ
gap_before entries zero = []
gap_before entries (suc k) = gap_between (slice_get entries k) (slice_get entries (suc k))
