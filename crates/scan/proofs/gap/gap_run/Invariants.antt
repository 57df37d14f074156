use Rattle.scan.proofs.Common.{◌≡◌, false, take, drop, feeds, behind_gap}
use Rattle.scan.proofs.gap.gap_run.Given as goal

abbrev pub invariant-loop-i : goal.invariant-loop-i
invariant-loop-i l = (behind_gap l.in_comment (drop l.i l.text) ≡ behind_gap false l.text) × (l.feeds ≡ feeds (take l.i l.text))
