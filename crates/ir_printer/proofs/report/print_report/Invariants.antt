use Rattle.ir_printer.proofs.Common.{◌≡◌, ◌++◌, drop, rest_of_report}
use Rattle.ir_printer.proofs.report.print_report.Given as goal

abbrev pub invariant-loop-entry : goal.invariant-loop-entry
invariant-loop-entry l =
    l.out.items ++ rest_of_report (drop l.entry-index l.entry-items) l.counts l.limited l.place ≡ rest_of_report l.entry-items l.counts l.limited 0
