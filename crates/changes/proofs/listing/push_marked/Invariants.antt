-- the list has the marked places before this one
use Rattle.changes.proofs.Common.{IsIn, ListedTo, AreAscending}
use Rattle.changes.proofs.listing.push_marked.Given as goal

abbrev pub invariant-loop-number : goal.invariant-loop-number
invariant-loop-number l = AreAscending (ListedTo l.f (IsIn l.marks) l.block l.number) l.places
