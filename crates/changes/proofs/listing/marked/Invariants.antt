-- the list has the marked places of the blocks before this one
use Rattle.changes.proofs.Common.{IsIn, ListedTo, AreAscending}
use Rattle.changes.proofs.listing.marked.Given as goal

abbrev pub invariant-loop-block : goal.invariant-loop-block
invariant-loop-block l = AreAscending (ListedTo l.f (IsIn l.marks) l.block 0) l.places
