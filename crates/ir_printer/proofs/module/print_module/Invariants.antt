use Rattle.ir_printer.proofs.Common.{◌≡◌, take, All, entries_text, EntryHasFewNames}
use Rattle.ir_printer.proofs.module.print_module.Given as goal

abbrev pub invariant-loop-place : goal.invariant-loop-place
invariant-loop-place l = record {
  text : l.out.items ≡ entries_text (take l.place l.entries);
  few : All EntryHasFewNames (take l.place l.entries);
}
