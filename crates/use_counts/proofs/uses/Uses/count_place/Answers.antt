use Rattle.use_counts.proofs.Common.{◌≡◌, sym, subst, ◌∙◌, arith, ◌+◌, IsBefore, AreCountsAmong, Uses}
use Rattle.use_counts.proofs.Places.{counts_more, place_past, read_there}
use Rattle.use_counts.proofs.uses.Uses.count_place.Goals as goal
use Rattle.use_counts.proofs.uses.Uses.count_place.Goals.{in-Some+in_ok-count, in_default}

pub loop-index-preserved : goal.loop-index-preserved
loop-index-preserved c = elim c.match-read_at.branch [
  | in-Some+in_ok-count w ↦
      subst (λ (u : Uses). AreCountsAmong c.args.f.now (λ b k i. IsBefore b k i c.args.block c.args.place (c.loop-index.index + 1)) u) (sym w.self-is)
      (counts_more c.args.f.now c.loop-index.self w.count.new.self c.args.block c.args.place c.loop-index.index w.in-Some.read c.loop-index.invariant
      (sym c.read_at.ensures ∙ w.in-Some.is) w.in_ok-count.ensures)
  | in_default w ↦
      let (r, at) = read_there c.args.f.now c.args.block c.args.place c.loop-index.index c.read_count-index-end.result c.read_count-index-end.ensures c.loop-index-test.true in
      absurd (w.in_default.not-Some r (c.read_at.ensures ∙ at))
]

pub returns : goal.returns
returns c =
    let end : c.loop-index.index ≡ c.read_count-index-end.result = omega arith in
    place_past c.args.f.now c.args.block c.args.place c.loop-index.index c.loop-index.self (end ∙ c.read_count-index-end.ensures) c.loop-index.invariant
