-- the operands so far are counted
use Rattle.readers.proofs.Common.{take, AreCounted, operands_at}
use Rattle.readers.proofs.uses.count_reads.Given as goal

abbrev pub invariant-loop-index : goal.invariant-loop-index
invariant-loop-index l = AreCounted (take l.index (operands_at l.arena l.place)) l.fn.uses l.uses
