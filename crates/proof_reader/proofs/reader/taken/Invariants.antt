use Rattle.proof_reader.proofs.Common.{◌≡◌, ◌++◌, into_iter_items, AreTaken}
use Rattle.proof_reader.proofs.reader.taken.Given as goal

-- the proofs so far are resolved, the others remain
abbrev pub invariant-loop-proof : goal.invariant-loop-proof
invariant-loop-proof l =
    record {
      taken : AreTaken l.rules l.yielded l.so_far.seen.keys l.so_far.read l.so_far.line;
      left : l.yielded ++ into_iter_items l.proof-iterator ≡ l.fn.proofs.items;
    }
