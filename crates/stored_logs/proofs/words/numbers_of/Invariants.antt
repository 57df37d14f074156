-- the widths so far
use Rattle.stored_logs.proofs.Common.{◌≡◌, take}
use Rattle.stored_logs.proofs.words.numbers_of.Given as goal

abbrev pub invariant-loop-width : goal.invariant-loop-width
invariant-loop-width l = l.numbers ≡ take l.width-index l.width-items
