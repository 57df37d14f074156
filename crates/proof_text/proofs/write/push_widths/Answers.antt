use Rattle.proof_text.proofs.Common.{◌≡◌, ◌++◌, get_or, numeral}
use Rattle.proof_text.proofs.Lines.{first_width, next_width}
use Rattle.proof_text.proofs.write.push_widths.Goals as goal
use Rattle.proof_text.proofs.write.push_widths.Goals.{then-place-gt0+in_ok-push, else-place-gt0}

pub loop-place-preserved : goal.loop-place-preserved
loop-place-preserved c =
    let widths = c.args.widths.now in
    let place = c.loop-place.place in
    let width = c.from.result in
    let is : width ≡ get_or widths place 0 = c.from.ensures in
    let printed : c.push_number.new.out.items ≡ c.if-place-gt0.out.items ++ numeral width = c.in_ok-push_number.ensures in
    elim c.if-place-gt0.branch [
      | then-place-gt0+in_ok-push w ↦
          next_width widths place width 0 c.args.out.now.items c.loop-place.out.items w.push.new.self.items c.push_number.new.out.items c.loop-place-test.true is w.if-place-gt0.true c.loop-place.invariant w.in_ok-push.ensures.items (rw w.out-is at printed)
      | else-place-gt0 w ↦
          first_width widths place width 0 c.args.out.now.items c.loop-place.out.items c.push_number.new.out.items c.loop-place-test.true is w.if-place-gt0.false c.loop-place.invariant (rw w.out-is at printed)
    ]
