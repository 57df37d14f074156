use Rattle.blast_rule.proofs.Common.{◌≡◌, ◌*◌, ◌≤◌, take, run_gates}
use Rattle.blast_rule.proofs.gates.run_gates.Given as goal

abbrev pub invariant-loop-statement : goal.invariant-loop-statement
invariant-loop-statement l = record {
  value : l.gates ≡ run_gates l.typing (take l.statement-index l.statements);
  few : l.gates ≤ 266241 * l.statement-index;
}
