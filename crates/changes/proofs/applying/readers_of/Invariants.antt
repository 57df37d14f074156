-- the list has the new places of what reads the root in the blocks before this one
use Rattle.changes.proofs.Common.{IsPutFor, ListedTo, ReadsRoot, AreAscending, Rewrite}
use Rattle.changes.proofs.applying.readers_of.Given as goal

abbrev pub invariant-loop-block : goal.invariant-loop-block
invariant-loop-block l = (w : Rewrite) → IsPutFor w l.put → AreAscending (ListedTo l.f (ReadsRoot l.f w) l.block 0) l.places
