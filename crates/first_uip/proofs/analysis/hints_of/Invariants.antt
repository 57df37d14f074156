use Rattle.first_uip.proofs.Common.{◌≡◌, take, reasons, resolved_entries}
use Rattle.first_uip.proofs.analysis.hints_of.Given as goal

abbrev pub invariant-loop-entry : goal.invariant-loop-entry
invariant-loop-entry l = l.hints ≡ reasons (resolved_entries l.roles (take l.entry-index l.shown))
