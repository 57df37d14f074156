use Rattle.ir_resolve.proofs.Common.{take, AllZip, BlockIsOf, known_by, CallsIn}
use Rattle.ir_resolve.proofs.building.function.blocks.Given as goal

abbrev pub invariant-loop-written : goal.invariant-loop-written
invariant-loop-written l = AllZip (BlockIsOf (CallsIn (known_by l.names))) (take l.written-index l.written) l.blocks
