use Rattle.depth_first.proofs.Common.{◌≡◌, ◌-◌, map, take, drop, value_or_false}
use Rattle.depth_first.proofs.trail.Trail.assignment.Given as goal

abbrev pub invariant-loop-variable : goal.invariant-loop-variable
invariant-loop-variable l = l.values ≡ map value_or_false (take (l.variable - 1) (drop 1 l.self.values.items))
