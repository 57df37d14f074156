use Rattle.needed.proofs.KeptLemmas.{Counted}
use Rattle.needed.proofs.kept.counts.Given as goal

abbrev pub invariant-loop-mark : goal.invariant-loop-mark
invariant-loop-mark l = Counted l.marks l.mark-index l.counts.items l.count
