use Rattle.rule_terms.proofs.Common.{◌≡◌, ◌+◌, ◌≤◌, length, seen, opens_formula}
use Rattle.rule_terms.proofs.formula_word.opens_formula.Given as goal

abbrev pub invariant-loop-remaining : goal.invariant-loop-remaining
invariant-loop-remaining l = record {
  bound : l.depth + length (seen l.remaining) ≤ length (seen l.tokens);
  so_far : opens_formula l.depth (seen l.remaining) ≡ opens_formula 0 (seen l.tokens);
}

abbrev pub decreases-loop-remaining : goal.decreases-loop-remaining
decreases-loop-remaining l = length (seen l.remaining)
