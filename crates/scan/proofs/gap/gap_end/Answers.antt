use Rattle.scan.proofs.Common.{◌≡◌, ◌≤◌, ◌+◌, ◌-◌, ℕ, length, take, drop, ap, ◌∙◌, subst, arith, take_rest, length-drop, feeds}
use Rattle.scan.proofs.GapLemmas.{GapTo, gap_to}
use Rattle.scan.proofs.gap.gap_end.Goals as goal

pub returns : goal.returns
returns c =
    let run : ℕ = c.gap_run-run.result.0 in
    let within : run ≤ length (drop c.args.place c.args.text.now) = rw take_rest at c.gap_run-run.ensures.within in
    let there : length c.args.text.now - length (drop run (drop c.args.place c.args.text.now)) ≡ c.args.place + run = omega (arith, length-drop run (drop c.args.place c.args.text.now), length-drop c.args.place c.args.text.now, within, c.requires) in
    let far : run ≡ c.args.place + run - c.args.place = omega arith in
    let g : GapTo c.args.text.now c.args.place (c.args.place + run) = subst (GapTo c.args.text.now c.args.place) there
    (gap_to c.args.text.now c.args.place (drop run (drop c.args.place c.args.text.now)) c.requires (rw take_rest at c.gap_run-run.ensures.behind)) in
    record {
      order = g.order;
      gap = g.gap;
      last = g.last;
      whole = g.whole;
      feeds = (rw take_rest at c.gap_run-run.ensures.feeds) ∙ ap (λ (n : ℕ). feeds (take n (drop c.args.place c.args.text.now))) far;
    }
