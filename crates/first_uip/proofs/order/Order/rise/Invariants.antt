use Rattle.first_uip.proofs.Common.{◌≡◌, ◌<◌, length}
use Rattle.first_uip.proofs.order.Order.rise.Given as goal

abbrev pub invariant-loop-place : goal.invariant-loop-place
invariant-loop-place l =
    record {
      within : l.place < length l.self.heap.items;
      variables : length l.self.activities.items ≡ length l.initial.self.activities.items;
    }

abbrev pub decreases-loop-place : goal.decreases-loop-place
decreases-loop-place l = l.place
