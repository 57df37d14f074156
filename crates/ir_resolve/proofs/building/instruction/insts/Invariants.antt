use Rattle.ir_resolve.proofs.Common.{take, AllZip, InstMeans, known_by, CallsIn}
use Rattle.ir_resolve.proofs.building.instruction.insts.Given as goal

abbrev pub invariant-loop-written : goal.invariant-loop-written
invariant-loop-written l = AllZip (InstMeans (CallsIn (known_by l.names))) (take l.written-index l.written) l.insts
