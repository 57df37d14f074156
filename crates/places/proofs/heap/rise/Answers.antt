use Rattle.places.proofs.Common.{◌-◌, ◌/◌, length, sym, subst, arith, iff_false, All-permutation, IsPermutation-trans, IsNumbered, IsBelow, IsRising, place_at, rank_at}
use Rattle.places.proofs.Ranks.{rank-before, not-before-rank, ranks-swapped, rise-step, risen-here}
use Rattle.places.proofs.heap.rise.Goals as goal

pub loop-at-preserved : goal.loop-at-preserved
loop-at-preserved c =
    let orders = c.args.orders.now in
    let heap = c.loop-at.heap in
    let new = c.swap.new.self in
    let at = c.loop-at.at in
    let over = (at - 1) / 2 in
    let h = c.loop-at.invariant in
    let within = h.within in
    let below : IsBelow at over = (omega arith, omega arith) in
    let lengths = c.swap.ensures.len in
    let lower = rank-before orders (place_at heap at) (place_at heap over) (c.comes_before.ensures.0 c.if-comes_before.true) in
    record {
      numbered = All-permutation (IsNumbered orders) heap new c.swap.ensures.permutation h.numbered;
      within = omega arith;
      rising = subst (λ n. IsRising (rank_at orders new) n over) (sym lengths)
          (rise-step (rank_at orders heap) (rank_at orders new) (length heap) at over h.rising within below lower (ranks-swapped orders heap new at over within (omega arith) c.swap.ensures.after));
      same = IsPermutation-trans c.args.heap.now heap new h.same c.swap.ensures.permutation;
    }

pub returns-else-comes_before-clause-heap : goal.returns-else-comes_before-clause-heap
returns-else-comes_before-clause-heap c =
    let orders = c.args.orders.now in
    let heap = c.loop-at.heap in
    let at = c.loop-at.at in
    let h = c.loop-at.invariant in
    let le = not-before-rank orders (place_at heap at) (place_at heap ((at - 1) / 2)) (iff_false c.comes_before.ensures c.if-comes_before.false) in
    risen-here orders heap at h.numbered h.rising (λ some. le)

pub returns-clause-heap : goal.returns-clause-heap
returns-clause-heap c =
    let h = c.loop-at.invariant in
    risen-here c.args.orders.now c.loop-at.heap c.loop-at.at h.numbered h.rising (λ some. absurd (omega arith))
