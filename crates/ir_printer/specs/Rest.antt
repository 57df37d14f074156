-- The rest of a report.
use Rattle.std.specs.Prelude.{ℕ, Bool, List, drop}
use Rattle.ir_core.specs.declared.module.Entry.{Entry}
use Rattle.ir_text.specs.Report.{entries_report}

-- the lines of these entries, of which the first function has this index among all functions
abbrev pub rest_of_report : List Entry → List ℕ → List Bool → ℕ → List ℕ
rest_of_report es counts limited place = entries_report es (drop place counts) (drop place limited)
