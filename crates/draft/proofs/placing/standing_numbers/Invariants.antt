-- the rows of the blocks before this one are made
use Rattle.draft.proofs.Common.{◌≡◌, take, standing}
use Rattle.draft.proofs.placing.standing_numbers.Given as goal

abbrev pub invariant-loop-block : goal.invariant-loop-block
invariant-loop-block l = l.rows.items ≡ take l.block (standing l.stand l.orders)
