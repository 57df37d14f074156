-- the blocks so far are in the use lists
use Rattle.readers.proofs.Listed.{AreListedBefore}
use Rattle.readers.proofs.uses.Readers.of.Given as goal

abbrev pub invariant-loop-block : goal.invariant-loop-block
invariant-loop-block l = AreListedBefore l.f l.block l.readers
