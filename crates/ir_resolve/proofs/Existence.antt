-- A function as written has a first fault, or none and means a function.
use Rattle.ir_resolve.proofs.Common.{◌⊎◌, inl, inr, ℕ, ◌<◌, List, None, Some, Function, RawFunction, Fault, IrFaultKind, Numbering, Duplicate, Unknown, TypeClash, written_names, Repeats, HasName, IsWrittenOn, Means, rank, HasFaultAt, HasNoFault, IsFirstNameFault, Known, Tabulates}
use Rattle.ir_resolve.proofs.Meaning.{means}
use Rattle.ir_resolve.proofs.Checked.{ready}
use Rattle.ir_resolve.proofs.Refusals.{clear_none, clear_1, clear_2, clear_3, clear_all}
use Rattle.ir_resolve.proofs.Once.{known, table}
use Rattle.ir_resolve.proofs.Deciding.{FirstOf}
use Rattle.ir_resolve.proofs.FirstLines.{first_numbering, first_duplicate, first_unknown, first_type_clash}
use Rattle.ir_resolve.proofs.Meant.{some_function}

module _ (earlier : List RawFunction) (raw : RawFunction) where
  abbrev HasMeaningOrFault : Type 0
  HasMeaningOrFault = (HasNoFault earlier raw × ((f : Function) × Means raw f)) ⊎ ((fault : Fault IrFaultKind) × IsFirstNameFault earlier raw fault)

  -- if there is no fault of the kinds before this one: the first line of this kind is that of the first fault, or, if
  -- there is none, one goes on with the next kind
  checked : (kind : IrFaultKind) → FirstOf (HasFaultAt earlier raw kind) → ((other : IrFaultKind) (line : ℕ) → rank other < rank kind → ¬ HasFaultAt earlier raw other line)
      → (((line : ℕ) → ¬ HasFaultAt earlier raw kind line) → HasMeaningOrFault) → HasMeaningOrFault
  checked kind (Some line, first) clear next = inr (record { line = line; kind = kind }, record { line = first; first = clear })
  checked kind (None, none) clear next = next none

  pub meaning_or_fault : HasMeaningOrFault
  meaning_or_fault =
      checked Numbering (first_numbering raw) (clear_none earlier raw)
      (λ no_numbering. checked Duplicate (first_duplicate earlier raw) (clear_1 earlier raw no_numbering)
      (λ no_duplicate.
      let no_repeat = λ (line : ℕ) (again : Repeats HasName IsWrittenOn (written_names raw) line). no_duplicate line (inr (inl again)) in
      let names : List Known = known raw no_repeat in
      let is_table : Tabulates raw names = table raw no_repeat in
      checked Unknown (first_unknown raw names is_table) (clear_2 earlier raw no_numbering no_duplicate)
      (λ no_unknown. checked TypeClash (first_type_clash raw names is_table) (clear_3 earlier raw no_numbering no_duplicate no_unknown)
      (λ no_clash.
      let (f, by_table) = some_function names raw (ready raw names is_table no_unknown no_clash) in
      inl (clear_all earlier raw no_numbering no_duplicate no_unknown no_clash, (f, means raw names f is_table by_table))))))
