-- so many empty lists
use Rattle.readers.proofs.Common.{◌≡◌, [], replicate}
use Rattle.readers.proofs.uses.rows.Given as goal

abbrev pub invariant-loop-k : goal.invariant-loop-k
invariant-loop-k l = l.rows ≡ replicate l._k []
