use Rattle.blast_term.proofs.Common.{◌≡◌, ◌*◌, ◌≤◌, take, numbers_gates, term_widths}
use Rattle.blast_term.proofs.term_gates.numbers_gates.Given as goal

abbrev pub invariant-loop-term : goal.invariant-loop-term
invariant-loop-term l = record {
  value : l.gates ≡ numbers_gates (term_widths l.typing (take l.term-index l.terms));
  few : l.gates ≤ 64 * l.term-index;
}
