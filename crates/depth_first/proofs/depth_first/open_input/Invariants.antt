use Rattle.depth_first.proofs.Common.{take, All, literals, IsSet}
use Rattle.depth_first.proofs.depth_first.open_input.Given as goal

abbrev pub invariant-loop-variable : goal.invariant-loop-variable
invariant-loop-variable l = All (IsSet (literals l.trail.entries.items)) (take l.variable-index l.cnf.inputs)
