use Rattle.verdict_core.proofs.Common.{◌≡◌, ◌++◌, ℕ, decimal, ap, ◌∙◌}
use Rattle.verdict_core.proofs.Lines.{first_width, next_width}
use Rattle.verdict_core.proofs.words.push_widths.Goals as goal
use Rattle.verdict_core.proofs.words.push_widths.Goals.{then-place-gt0+in_ok-push, else-place-gt0}

pub loop-place-preserved : goal.loop-place-preserved
loop-place-preserved c =
    let widths = c.args.widths.now in
    let place = c.loop-place.place in
    let width = c.index-widths-place.result in
    let printed : c.push_decimal.new.out.items ≡ c.if-place-gt0.out.items ++ decimal width =
    c.in_ok-push_decimal.ensures ∙ ap (λ (n : ℕ). c.if-place-gt0.out.items ++ decimal n) (c.from.ensures ∙ c.bits.ensures.bits) in
    elim c.if-place-gt0.branch [
      | then-place-gt0+in_ok-push w ↦
          next_width widths place width c.args.out.now.items c.loop-place.out.items w.push.new.self.items c.push_decimal.new.out.items c.loop-place-test.true c.index-widths-place.is w.if-place-gt0.true c.loop-place.invariant w.in_ok-push.ensures.items (rw w.out-is at printed)
      | else-place-gt0 w ↦
          first_width widths place width c.args.out.now.items c.loop-place.out.items c.push_decimal.new.out.items c.loop-place-test.true c.index-widths-place.is w.if-place-gt0.false c.loop-place.invariant (rw w.out-is at printed)
    ]
