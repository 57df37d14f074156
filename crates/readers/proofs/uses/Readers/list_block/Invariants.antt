-- the instructions so far are in the use lists
use Rattle.readers.proofs.Listed.{AreListedBelow}
use Rattle.readers.proofs.uses.Readers.list_block.Given as goal

abbrev pub invariant-loop-number : goal.invariant-loop-number
invariant-loop-number l = AreListedBelow l.f l.block l.number l.fn.self l.self
