use Rattle.scan.proofs.Common.{◌≡◌, ◌≤◌, false, drop}
use Rattle.scan.proofs.KeptLemmas.{closing}
use Rattle.scan.proofs.kept.behind_group.Given as goal

abbrev pub invariant-loop-i : goal.invariant-loop-i
invariant-loop-i l = (l.depth ≤ l.i) × (closing l.in_quotes l.depth (drop l.i l.text) ≡ closing false 0 l.text)
