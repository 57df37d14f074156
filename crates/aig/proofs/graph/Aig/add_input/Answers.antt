use Rattle.aig.proofs.Common.{arith}
use Rattle.aig.proofs.GraphLemmas.{still_in_order}
use Rattle.aig.proofs.graph.Aig.add_input.Goals as goal

pub invariant_of-self : goal.invariant_of-self
invariant_of-self c = record {
  in_order = still_in_order c.self.inside.inputs _ c.self.inside.gates.keys (omega arith) c.self.invariant.in_order;
  proper = c.self.invariant.proper;
  few_inputs = omega arith;
  few_gates = c.self.invariant.few_gates;
}
