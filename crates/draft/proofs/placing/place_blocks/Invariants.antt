-- the blocks before the index are done
use Rattle.draft.proofs.Common.{at_places}
use Rattle.draft.proofs.Placed.{BlocksPlaced}
use Rattle.draft.proofs.placing.place_blocks.Given as goal

abbrev pub invariant-loop-index : goal.invariant-loop-index
invariant-loop-index l = BlocksPlaced (at_places l.places.rows.items) l.numbers l.initial.blocks l.index l.blocks
