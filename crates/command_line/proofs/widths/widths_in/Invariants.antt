use Rattle.command_line.proofs.Common.{◌≡◌, ◌-◌, filter, up_to, is_in_some}
use Rattle.command_line.proofs.widths.widths_in.Given as goal

abbrev pub invariant-loop-bits : goal.invariant-loop-bits
invariant-loop-bits l = l.widths ≡ filter (is_in_some l.spans) (up_to (l.bits - 1))
