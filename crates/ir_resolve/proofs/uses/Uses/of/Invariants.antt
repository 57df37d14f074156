use Rattle.ir_resolve.proofs.Common.{take, flat_map, read_in, named_in, Adds}
use Rattle.ir_resolve.proofs.uses.Uses.of.Given as goal

abbrev pub invariant-loop-block : goal.invariant-loop-block
invariant-loop-block l = Adds l.initial.uses l.uses (flat_map read_in (take l.block-index l.block-items)) (flat_map named_in (take l.block-index l.block-items))
