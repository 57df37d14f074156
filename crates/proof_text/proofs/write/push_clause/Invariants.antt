use Rattle.proof_text.proofs.Common.{◌≡◌, ◌++◌, take, flat_map, codes, literal_text}
use Rattle.proof_text.proofs.write.push_clause.Given as goal

abbrev pub invariant-loop-literal : goal.invariant-loop-literal
invariant-loop-literal l = l.out.items ≡ l.fn.out.items ++ flat_map (λ x. literal_text x ++ codes " ") (take l.literal-index l.clause)
