use Rattle.assigned_flow.proofs.Common.{◌≡◌, ◌++◌, take, map}
use Rattle.assigned_flow.proofs.graph.targets.Given as goal

abbrev pub invariant-loop-to : goal.invariant-loop-to
invariant-loop-to l = l.blocks ≡ l.initial.blocks ++ map (λ c. c.1) (take l.to-index l.to-items)
