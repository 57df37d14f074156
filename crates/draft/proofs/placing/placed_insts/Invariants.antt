-- the instructions of the numbers before the index are moved out
use Rattle.draft.proofs.Common.{at_places}
use Rattle.draft.proofs.Placed.{InstsPlaced}
use Rattle.draft.proofs.placing.placed_insts.Given as goal

abbrev pub invariant-loop-number : goal.invariant-loop-number
invariant-loop-number l = InstsPlaced (at_places l.places.rows.items) l.fn.insts l.numbers l.number-index l.insts.items l.placed
