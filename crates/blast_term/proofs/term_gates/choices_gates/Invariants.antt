use Rattle.blast_term.proofs.Common.{◌≡◌, ◌*◌, ◌≤◌, take, choices_gates, term_widths}
use Rattle.blast_term.proofs.term_gates.choices_gates.Given as goal

abbrev pub invariant-loop-place : goal.invariant-loop-place
invariant-loop-place l = record {
  value : l.gates ≡ choices_gates (term_widths l.typing l.terms) (take l.place-index l.places);
  few : l.gates ≤ 64 * l.place-index;
}
