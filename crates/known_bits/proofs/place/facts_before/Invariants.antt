use Rattle.known_bits.proofs.Common.{◌≡◌, ◌≤◌, length, take, All, known_results}
use Rattle.known_bits.proofs.place.facts_before.Given as goal

abbrev pub invariant-loop-inst : goal.invariant-loop-inst
invariant-loop-inst l = (l.facts.block ≡ l.block) × (l.facts.results ≡ known_results l.block (take l.inst-index l.insts)) × All (λ bits. length bits ≤ 64) l.facts.results
