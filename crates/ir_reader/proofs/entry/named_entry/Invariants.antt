-- the first line of such a terminator so far
use Rattle.ir_reader.proofs.Common.{Function, IsFirst, Before, EntryPredHere, ArePredecessors}
use Rattle.ir_reader.proofs.entry.named_entry.Given as goal

abbrev pub invariant-loop-place : goal.invariant-loop-place
invariant-loop-place l = (f : Function) → ArePredecessors f l.predecessors → IsFirst (Before (EntryPredHere l.raw f) l.place) l.found
