-- the blocks so far are added to the sets
use Rattle.ir_reader.proofs.Common.{take, AddsOf}
use Rattle.ir_reader.proofs.predecessors.add_blocks.Given as goal

abbrev pub invariant-loop-place : goal.invariant-loop-place
invariant-loop-place l = AddsOf l.initial.sets l.sets (take l.place l.blocks)
