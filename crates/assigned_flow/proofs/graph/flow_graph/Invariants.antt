use Rattle.assigned_flow.proofs.Common.{◌≡◌, take, map, targets_of}
use Rattle.assigned_flow.proofs.graph.flow_graph.Given as goal

abbrev pub invariant-loop-block : goal.invariant-loop-block
invariant-loop-block l = l.successors ≡ map (λ block. targets_of block.end) (take l.block-index l.block-items)
