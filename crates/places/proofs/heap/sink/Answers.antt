use Rattle.places.proofs.Common.{length, sym, subst, arith, iff_false, All-permutation, IsPermutation-trans, IsNumbered, IsSinking, place_at, rank_at}
use Rattle.places.proofs.Ranks.{rank-before, not-before-rank, ranks-swapped, sink-step, sunk-here, sunk-down}
use Rattle.places.proofs.heap.sink.Goals as goal

pub loop-below-preserved : goal.loop-below-preserved
loop-below-preserved c =
    let orders = c.args.orders.now in
    let heap = c.loop-below.heap in
    let new = c.swap.new.self in
    let at = c.loop-below.at in
    let below = c.in-Some.below in
    let h = c.loop-below.invariant in
    let least = c.in-Some.ensures.below in
    let inside = least.within in
    let under = least.below.0 in
    let lengths = c.swap.ensures.len in
    let lower = rank-before orders (place_at heap below) (place_at heap at) (c.comes_before.ensures.0 c.if-comes_before.true) in
    record {
      numbered = All-permutation (IsNumbered orders) heap new c.swap.ensures.permutation h.numbered;
      within = omega arith;
      sinking = subst (λ n. IsSinking (rank_at orders new) n below) (sym lengths)
          (sink-step (rank_at orders heap) (rank_at orders new) (length heap) at below h.sinking least lower (ranks-swapped orders heap new at below (omega arith) inside c.swap.ensures.after));
      same = IsPermutation-trans c.args.heap.now heap new h.same c.swap.ensures.permutation;
    }

pub returns-else-comes_before-clause-heap : goal.returns-else-comes_before-clause-heap
returns-else-comes_before-clause-heap c =
    let orders = c.args.orders.now in
    let heap = c.loop-below.heap in
    let h = c.loop-below.invariant in
    let le = not-before-rank orders (place_at heap c.in-Some.below) (place_at heap c.loop-below.at) (iff_false c.comes_before.ensures c.if-comes_before.false) in
    sunk-here orders heap c.loop-below.at c.in-Some.below h.numbered h.sinking c.in-Some.ensures.below le

pub returns-clause-heap : goal.returns-clause-heap
returns-clause-heap c =
    let h = c.loop-below.invariant in
    sunk-down c.args.orders.now c.loop-below.heap c.loop-below.at h.numbered h.sinking c.in_default.ensures.none
