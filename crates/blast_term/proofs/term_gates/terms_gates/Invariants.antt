use Rattle.blast_term.proofs.Common.{◌≡◌, ◌*◌, ◌≤◌, take, terms_gates}
use Rattle.blast_term.proofs.term_gates.terms_gates.Given as goal

abbrev pub invariant-loop-term : goal.invariant-loop-term
invariant-loop-term l = record {
  value : l.gates ≡ terms_gates l.typing (take l.term-index l.terms);
  few : l.gates ≤ 266241 * l.term-index;
}
