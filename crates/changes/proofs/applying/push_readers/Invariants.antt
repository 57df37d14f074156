-- the list has the new places of what reads the root before this place
use Rattle.changes.proofs.Common.{IsPutFor, ListedTo, ReadsRoot, AreAscending, Rewrite}
use Rattle.changes.proofs.applying.push_readers.Given as goal

abbrev pub invariant-loop-place : goal.invariant-loop-place
invariant-loop-place l = (w : Rewrite) → IsPutFor w l.put → AreAscending (ListedTo l.f (ReadsRoot l.f w) l.block 0) l.initial.places → AreAscending (ListedTo l.f (ReadsRoot l.f w) l.block l.place) l.places
