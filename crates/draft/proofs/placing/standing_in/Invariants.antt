-- the numbers before the next one were looked at
use Rattle.draft.proofs.Rows.{Walked, left}
use Rattle.draft.proofs.placing.standing_in.Given as goal

abbrev pub invariant-loop-at : goal.invariant-loop-at
invariant-loop-at l = Walked l.stand l.order l.at l.numbers

abbrev pub decreases-loop-at : goal.decreases-loop-at
decreases-loop-at l = left l.order l.at
