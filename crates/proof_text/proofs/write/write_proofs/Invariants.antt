use Rattle.proof_text.proofs.Common.{◌≡◌, take, flat_map, proof_text}
use Rattle.proof_text.proofs.write.write_proofs.Given as goal

abbrev pub invariant-loop-proof : goal.invariant-loop-proof
invariant-loop-proof l = l.out.items ≡ flat_map proof_text (take l.proof-index l.proofs)
