use Rattle.places.proofs.Common.{◌+◌, ◌*◌, length, arith, iff_false, place_at, rank_at}
use Rattle.places.proofs.Ranks.{rank-before, not-before-rank, least-left, least-right}
use Rattle.places.proofs.heap.least_below.Goals as goal
use Rattle.places.proofs.heap.least_below.Goals.{else-right-heap-via-then-right-heap+else-comes_before, else-right-heap-via-else-right-heap}

pub returns-then-comes_before-clause-below : goal.returns-then-comes_before-clause-below
returns-then-comes_before-clause-below c =
    let orders = c.args.orders.now in
    let heap = c.args.heap.now in
    let at = c.args.at in
    let lower = rank-before orders (place_at heap (2 * at + 1 + 1)) (place_at heap (2 * at + 1)) (c.comes_before.ensures.0 c.if-comes_before.true) in
    least-right (rank_at orders heap) (length heap) at (omega arith) (omega arith)

pub returns-else-right-heap-clause-below : goal.returns-else-right-heap-clause-below
returns-else-right-heap-clause-below c =
    let orders = c.args.orders.now in
    let heap = c.args.heap.now in
    let at = c.args.at in
    elim c.else-right-heap.branch [
      | else-right-heap-via-then-right-heap+else-comes_before w ↦
          least-left (rank_at orders heap) (length heap) at (omega arith) (λ lt. not-before-rank orders (place_at heap (2 * at + 1 + 1)) (place_at heap (2 * at + 1)) (iff_false w.comes_before.ensures w.if-comes_before.false))
      | else-right-heap-via-else-right-heap w ↦
          least-left (rank_at orders heap) (length heap) at (omega arith) (λ lt. absurd (omega arith))
    ]
