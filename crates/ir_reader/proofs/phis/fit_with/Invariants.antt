-- the operands of the entries so far
use Rattle.ir_reader.proofs.Common.{◌≡◌, ◌↔◌, ℕ, take, nat_eq, Some, IsTrue, Contains, get, contains, Operand}
use Rattle.ir_reader.proofs.phis.fit_with.Given as goal

abbrev pub invariant-loop-operand : goal.invariant-loop-operand
invariant-loop-operand l = record {
  some : (c : ℕ) (a : Operand) → (get nat_eq l.operands c ≡ Some a) ↔ Contains (take l.operand-index l.entries) (a, c);
  among : (c : ℕ) (a : Operand) → Contains (take l.operand-index l.entries) (a, c) → IsTrue (contains nat_eq l.predecessors c);
}
