use Rattle.aig.proofs.Common.{◌≡◌, Bool, List, Some, slice_get, sym, ap, ◌∙◌, subst, arith, Graph, gate_value, gate_values, Stands}
use Rattle.aig.proofs.Keys.{IsInserted, inserted, same_gate}
use Rattle.aig.proofs.Growth.{inserted-in_order, inserted-proper, inserted-length, inserted-adds, inserted-value, output_stands}
use Rattle.aig.proofs.graph.Aig.push.Goals as goal
use Rattle.aig.proofs.graph.Aig.push.Goals.{After-output}

is_inserted : (c : After-output) → IsInserted c.self.inside.gates.keys c.args.gate c.insert_full.new.self.keys
is_inserted c = subst (IsInserted c.self.inside.gates.keys c.args.gate) (sym c.in_ok-place.ensures.keys) (inserted c.self.inside.gates.keys c.args.gate)

pub invariant_of-self-2 : goal.invariant_of-self-2
invariant_of-self-2 c =
    let keys = c.self.inside.gates.keys in
    let new = c.insert_full.new.self.keys in
    let gate = c.args.gate in
    let operands = rw (← c.self.view_is) at c.requires.operands in
    record {
      in_order = inserted-in_order keys new gate c.self.inside.inputs (is_inserted c) c.self.invariant.in_order operands;
      proper = inserted-proper keys new gate (is_inserted c) c.self.invariant.proper c.requires.proper;
      few_inputs = c.self.invariant.few_inputs;
      few_gates = omega (arith, inserted-length keys new gate (is_inserted c), c.len.ensures.len);
    }

pub returns-clause-stands : goal.returns-clause-stands
returns-clause-stands c =
    let n = c.self.inside.inputs in
    let keys = c.self.inside.gates.keys in
    let newer = c.insert_full.new.self.keys in
    let gate = c.args.gate in
    let graph : Graph = record { inputs = n; gates = newer } in
    let table : List Bool → Bool = λ inputs. gate_value inputs (gate_values inputs keys) gate in
    let stored = c.in_ok-place.ensures.stored in
    let at : slice_get newer c.in_ok-place.place ≡ Some gate = stored.1 ∙ ap Some (sym (same_gate gate stored.0 stored.2)) in
    let operands = rw (← c.self.view_is) at c.requires.operands in
    rw (← c.self.view_is)
    (subst (Stands graph table) (sym c.output.ensures)
    (output_stands graph (inserted-in_order keys newer gate n (is_inserted c) c.self.invariant.in_order operands) c.in_ok-place.place gate at table
    (inserted-value keys newer gate n (is_inserted c) operands)))

pub returns-clause-adds : goal.returns-clause-adds
returns-clause-adds c =
    rw (← c.self.view_is)
    (inserted-adds c.self.inside.gates.keys c.insert_full.new.self.keys c.args.gate c.self.inside.inputs (is_inserted c))
