-- the tables of the blocks before this one are made
use Rattle.draft.proofs.Placed.{TablesKept}
use Rattle.draft.proofs.placing.places_of.Given as goal

abbrev pub invariant-loop-block : goal.invariant-loop-block
invariant-loop-block l = TablesKept l.numbers l.block l.rows.items
