use Rattle.proof_text.proofs.Common.{◌≡◌, ◌++◌, take}
use Rattle.proof_text.proofs.stop.take_text.Given as goal

abbrev pub invariant-loop-byte : goal.invariant-loop-byte
invariant-loop-byte l = l.fn.rest.now ≡ take l.byte-index l.wanted ++ l.rest.now
