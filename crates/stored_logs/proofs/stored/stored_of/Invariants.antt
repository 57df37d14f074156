use Rattle.stored_logs.proofs.Common.{◌≡◌, All, ◌++◌, into_iter_items, IsLogStored}
use Rattle.stored_logs.proofs.stored.stored_of.Given as goal

-- the logs of the proofs so far are stored; the others remain
abbrev pub invariant-loop-proof : goal.invariant-loop-proof
invariant-loop-proof l =
    record {
      stored : All (IsLogStored l.stored) l.yielded;
      left : l.yielded ++ into_iter_items l.proof-iterator ≡ l.fn.proofs.items;
    }
