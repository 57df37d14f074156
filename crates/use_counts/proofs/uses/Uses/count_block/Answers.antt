use Rattle.use_counts.proofs.Common.{◌≡◌, ℕ, subst, arith, IsBefore, AreCountsAmong}
use Rattle.use_counts.proofs.Places.{block_past}
use Rattle.use_counts.proofs.uses.Uses.count_block.Goals as goal

pub count_place-requires-2-clause-before : goal.count_place-requires-2-clause-before
count_place-requires-2-clause-before c =
    let end : c.loop-place.place ≡ c.end_of-end.result = omega arith in
    subst (λ (x : ℕ). AreCountsAmong c.args.f.now (λ b k i. IsBefore b k i c.args.block x 0) c.loop-place.self) end c.loop-place.invariant

pub returns : goal.returns
returns c = block_past c.args.f.now c.args.block c.end_of-end.result c.count_place-2.new.self c.end_of-end.ensures c.in_ok-count_place-2.ensures
