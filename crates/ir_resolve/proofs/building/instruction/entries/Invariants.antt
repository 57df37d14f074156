use Rattle.ir_resolve.proofs.Common.{take, AllZip, IncomingMeans, known_by, CallsIn}
use Rattle.ir_resolve.proofs.building.instruction.entries.Given as goal

abbrev pub invariant-loop-written : goal.invariant-loop-written
invariant-loop-written l = AllZip (IncomingMeans (CallsIn (known_by l.names))) (take l.written-index l.incoming) l.entries
