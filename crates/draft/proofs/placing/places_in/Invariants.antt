-- the table has the position of each number before the index
use Rattle.draft.proofs.Placed.{PlacesKept}
use Rattle.draft.proofs.placing.places_in.Given as goal

abbrev pub invariant-loop-place : goal.invariant-loop-place
invariant-loop-place l = PlacesKept l.fn.count l.numbers l.place l.places.items
