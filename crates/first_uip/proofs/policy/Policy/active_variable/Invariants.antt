use Rattle.first_uip.proofs.Common.{◌≡◌, length}
use Rattle.first_uip.proofs.policy.Policy.active_variable.Given as goal

abbrev pub invariant-loop-variable : goal.invariant-loop-variable
invariant-loop-variable l = length l.self.negated.items ≡ length l.initial.self.negated.items

abbrev pub decreases-loop-variable : goal.decreases-loop-variable
decreases-loop-variable l = length l.self.order.heap.items
