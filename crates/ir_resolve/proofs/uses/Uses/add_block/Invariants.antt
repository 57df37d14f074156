use Rattle.ir_resolve.proofs.Common.{take, flat_map, read_by, named_by, Adds}
use Rattle.ir_resolve.proofs.uses.Uses.add_block.Given as goal

abbrev pub invariant-loop-inst : goal.invariant-loop-inst
invariant-loop-inst l = Adds l.initial.self l.self (flat_map (λ i. read_by i.op) (take l.inst-index l.inst-items)) (flat_map (λ i. named_by i.op) (take l.inst-index l.inst-items))
