use Rattle.ir_resolve.proofs.Common.{take, AllZip, ParameterMeans}
use Rattle.ir_resolve.proofs.building.function.parameters.Given as goal

abbrev pub invariant-loop-written : goal.invariant-loop-written
invariant-loop-written l = AllZip ParameterMeans (take l.written-index l.written) l.parameters
