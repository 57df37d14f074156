use Rattle.proof_text.proofs.Common.{◌≡◌, ◌++◌, take, flat_map, codes, numeral}
use Rattle.proof_text.proofs.write.push_hints.Given as goal

abbrev pub invariant-loop-hint : goal.invariant-loop-hint
invariant-loop-hint l = l.out.items ≡ l.fn.out.items ++ flat_map (λ x. codes " " ++ numeral x) (take l.hint-index l.hints)
