use Rattle.rule_typing.proofs.Common.{◌+◌, List, ℕ, take, subst, Contains, take_all, MayHaveWidth, HasExactly}
use Rattle.rule_typing.proofs.Among.{holds, fails}
use Rattle.rule_typing.proofs.Sets.{one_taken, added, left_out}
use Rattle.rule_typing.proofs.widths.listed_choices.Goals as goal
use Rattle.rule_typing.proofs.widths.listed_choices.Goals.{then-class_fits, else-class_fits}

pub loop-width-preserved : goal.loop-width-preserved
loop-width-preserved c =
    let i : ℕ = c.loop-width.width-index in
    let widths : List ℕ = c.args.widths.now in
    let more = one_taken widths i c.width-item.result c.loop-width-test.true c.width-item.is in
    elim c.if-class_fits.branch [
      | then-class_fits w ↦ rw w.set-is
          (added (Contains (take i widths)) (Contains (take (i + 1) widths)) (MayHaveWidth c.args.rule.now c.args.class) c.width-item.result c.loop-width.set more c.loop-width.invariant
          w.insert.new.self w.insert.ensures (holds c.class_fits.result c.class_fits.ensures w.if-class_fits.true))
      | else-class_fits w ↦ rw w.set-is
          (left_out (Contains (take i widths)) (Contains (take (i + 1) widths)) (MayHaveWidth c.args.rule.now c.args.class) c.width-item.result c.loop-width.set more c.loop-width.invariant
          (fails c.class_fits.result c.class_fits.ensures w.if-class_fits.false))
    ]

pub returns : goal.returns
returns c =
    subst (λ l. HasExactly c.loop-width.set (λ N. Contains l N × MayHaveWidth c.args.rule.now c.args.class N)) (take_all c.loop-width.width-index c.args.widths.now c.loop-width-test.false) c.loop-width.invariant
