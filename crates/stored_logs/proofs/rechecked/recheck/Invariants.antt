use Rattle.stored_logs.proofs.Common.{◌++◌, into_iter_items, IsReadOf}
use Rattle.stored_logs.proofs.Rechecking.{AreRows}
use Rattle.stored_logs.proofs.rechecked.recheck.Given as goal

-- the rows are those of the proofs so far; the others remain
abbrev pub invariant-loop-proof : goal.invariant-loop-proof
invariant-loop-proof l =
    record {
      rows : AreRows l.rules l.conflicts l.yielded l.rechecked;
      left : IsReadOf l.rules l.bytes (l.yielded ++ into_iter_items l.proof-iterator);
    }
