use Rattle.needed.proofs.KeptLemmas.{counted_marked, counted_other}
use Rattle.needed.proofs.kept.counts.Goals.{then-mark, else-mark}
use Rattle.needed.proofs.kept.counts.Goals as goal

pub loop-mark-preserved : goal.loop-mark-preserved
loop-mark-preserved c =
    rw c.in_ok-push.ensures.items (elim c.if-mark.branch [
      | then-mark w ↦ rw w.count-is (counted_marked c.args.marks.now c.loop-mark.mark-index c.loop-mark.counts.items c.loop-mark.count _ c.loop-mark.invariant c.loop-mark-test.true w.if-mark.true)
      | else-mark w ↦ rw w.count-is (counted_other c.args.marks.now c.loop-mark.mark-index c.loop-mark.counts.items c.loop-mark.count _ c.loop-mark.invariant c.loop-mark-test.true w.if-mark.false)
    ])
