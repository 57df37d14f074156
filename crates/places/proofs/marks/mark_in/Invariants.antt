use Rattle.places.proofs.Common.{◌+◌, ◌-◌, length, AreSameMarks}
use Rattle.places.proofs.marks.mark_in.Given as goal

abbrev pub invariant-loop-row : goal.invariant-loop-row
invariant-loop-row l = AreSameMarks l.fn.row l.row

abbrev pub decreases-loop-row : goal.decreases-loop-row
decreases-loop-row l = l.number + 1 - length l.row
