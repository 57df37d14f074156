use Rattle.first_uip.proofs.Common.{◌≡◌, ◌+◌, length}
use Rattle.first_uip.proofs.order.Order.new.Given as goal

abbrev pub invariant-loop-variable : goal.invariant-loop-variable
invariant-loop-variable l = length l.order.activities.items ≡ l.count + 1
