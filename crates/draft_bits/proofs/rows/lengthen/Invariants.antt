-- the row has grown so far
use Rattle.draft_bits.proofs.Common.{IsLonger}
use Rattle.draft_bits.proofs.rows.lengthen.Given as goal

abbrev pub invariant-loop-new : goal.invariant-loop-new
invariant-loop-new l = IsLonger l._new l.initial.facts l.facts
