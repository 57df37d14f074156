use Rattle.blast_term.proofs.Common.{◌≡◌, ◌*◌, ◌≤◌, take, facts_gates, term_widths}
use Rattle.blast_term.proofs.term_gates.facts_gates.Given as goal

abbrev pub invariant-loop-formula : goal.invariant-loop-formula
invariant-loop-formula l = record {
  value : l.gates ≡ facts_gates (term_widths l.typing l.terms) (take l.formula-index l.formulas);
  few : l.gates ≤ 195 * l.formula-index;
}
