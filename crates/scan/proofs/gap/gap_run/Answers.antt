use Rattle.scan.proofs.Common.{◌≡◌, Bool, true, sym, ap, ◌∙◌, ◌+◌, drop, get_or, arith, is_blank, behind_gap}
use Rattle.scan.proofs.GapLemmas.{step_feed, step_comment, step_opens, step_blank, blank_no_feed, gap_ends, feeds_more, feeds_same}
use Rattle.scan.proofs.gap.gap_run.Goals as goal
use Rattle.scan.proofs.gap.gap_run.Goals.{then-is_blank, else-is_blank+in-10, else-is_blank+in-59, else-is_blank+in_default-2}

pub loop-i-preserved : goal.loop-i-preserved
loop-i-preserved c =
    let now = λ (x : Bool). behind_gap x (drop (c.loop-i.i + 1) c.args.text.now) in
    elim c.if-is_blank.branch [
      | then-is_blank w ↦ let blank : is_blank (get_or c.args.text.now c.loop-i.i 0) ≡ true = sym c.is_blank.ensures ∙ w.if-is_blank.true in (
        ap now w.in_comment-is ∙ step_blank c.loop-i.in_comment c.args.text.now c.loop-i.i (omega arith) blank ∙ c.loop-i.invariant.0,
        omega (arith, feeds_same c.args.text.now c.loop-i.i (omega arith) (blank_no_feed (get_or c.args.text.now c.loop-i.i 0) blank)),
      )
      | else-is_blank+in-10 w ↦ (
        ap now w.in_comment-is ∙ step_feed c.loop-i.in_comment c.args.text.now c.loop-i.i (omega arith) w.in-10.is ∙ c.loop-i.invariant.0,
        omega (arith, feeds_more c.args.text.now c.loop-i.i (omega arith) w.in-10.is),
      )
      | else-is_blank+in-59 w ↦ (
        ap now w.in_comment-is ∙ step_opens c.loop-i.in_comment c.args.text.now c.loop-i.i (omega arith) w.in-59.is ∙ c.loop-i.invariant.0,
        omega (arith, feeds_same c.args.text.now c.loop-i.i (omega arith) (omega arith)),
      )
      | else-is_blank+in_default-2 w ↦ (
        ap now (w.in_comment-is ∙ w.if-in_comment.true) ∙ step_comment c.args.text.now c.loop-i.i (omega arith) (omega arith) ∙ rw w.if-in_comment.true at c.loop-i.invariant.0,
        omega (arith, feeds_same c.args.text.now c.loop-i.i (omega arith) (omega arith)),
      )
    ]

pub returns-in_default-3-clause-behind : goal.returns-in_default-3-clause-behind
returns-in_default-3-clause-behind c = gap_ends c.args.text.now c.loop-i.i (omega arith) (omega arith) (omega arith) (sym c.is_blank.ensures ∙ c.if-is_blank.false) ∙ rw c.if-in_comment.false at c.loop-i.invariant.0
