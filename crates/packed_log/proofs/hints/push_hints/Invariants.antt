use Rattle.packed_log.proofs.Common.{length, take}
use Rattle.packed_log.proofs.Lists.{ListSoFar}
use Rattle.packed_log.proofs.Differences.{AreDifferences}
use Rattle.packed_log.proofs.hints.push_hints.Given as goal

abbrev pub invariant-loop-hint : goal.invariant-loop-hint
invariant-loop-hint l = ListSoFar (length l.hints) l.hint-index (AreDifferences (take l.hint-index l.hints) l.before) l.fn.bytes.items l.bytes.items
