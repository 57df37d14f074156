-- the widths so far
use Rattle.asked_verdicts.proofs.Common.{◌≡◌, take}
use Rattle.asked_verdicts.proofs.typings.widths_of.Given as goal

abbrev pub invariant-loop-width : goal.invariant-loop-width
invariant-loop-width l = l.widths.items ≡ take l.width-index l.width-items
