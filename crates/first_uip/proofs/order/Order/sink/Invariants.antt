use Rattle.first_uip.proofs.Common.{◌≡◌, ◌-◌, ◌<◌, length}
use Rattle.first_uip.proofs.order.Order.sink.Given as goal

abbrev pub invariant-loop-child : goal.invariant-loop-child
invariant-loop-child l =
    record {
      within : l.place < length l.self.heap.items;
      heap : length l.self.heap.items ≡ length l.initial.self.heap.items;
      variables : length l.self.activities.items ≡ length l.initial.self.activities.items;
    }

abbrev pub decreases-loop-child : goal.decreases-loop-child
decreases-loop-child l = length l.self.heap.items - l.place
