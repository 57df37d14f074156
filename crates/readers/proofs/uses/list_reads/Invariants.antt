-- the place is in the use lists of the operands so far
use Rattle.readers.proofs.Common.{take, operands_at, AreListed}
use Rattle.readers.proofs.uses.list_reads.Given as goal

abbrev pub invariant-loop-index : goal.invariant-loop-index
invariant-loop-index l = AreListed l.place (take l.index (operands_at l.arena l.place)) l.fn.readers l.readers
