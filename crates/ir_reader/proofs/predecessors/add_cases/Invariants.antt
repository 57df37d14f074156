-- the block is added to the sets of the targets so far
use Rattle.ir_reader.proofs.Common.{take, map, AddsTo}
use Rattle.ir_reader.proofs.predecessors.add_cases.Given as goal

abbrev pub invariant-loop-target : goal.invariant-loop-target
invariant-loop-target l = AddsTo l.initial.sets l.sets l.block (map (λ case. case.1) (take l.target-index l.cases))
