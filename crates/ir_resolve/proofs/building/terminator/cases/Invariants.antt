use Rattle.ir_resolve.proofs.Common.{take, AllZip, CaseMeans, known_by, CallsIn}
use Rattle.ir_resolve.proofs.building.terminator.cases.Given as goal

abbrev pub invariant-loop-written : goal.invariant-loop-written
invariant-loop-written l = AllZip (CaseMeans (CallsIn (known_by l.names))) (take l.written-index l.written) l.cases
