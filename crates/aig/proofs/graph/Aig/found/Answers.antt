use Rattle.aig.proofs.Common.{◌≡◌, List, Bool, ◌&&◌, sym, ap, ◌∙◌, subst, Graph, value_of, gate_value, gate_values, Stands}
use Rattle.aig.proofs.Keys.{found_at}
use Rattle.aig.proofs.Ordered.{ordered_and-value}
use Rattle.aig.proofs.Growth.{output_stands}
use Rattle.aig.proofs.graph.Aig.found.Goals as goal

pub returns : goal.returns
returns c =
    let graph : Graph = record { inputs = c.self.inside.inputs; gates = c.self.inside.gates.keys } in
    let a = c.args.a in
    let b = c.args.b in
    let table : List Bool → Bool = λ inputs. value_of graph inputs a && value_of graph inputs b in
    let at = found_at c.self.inside.gates.keys c.and-gate.result c.in_ok-place.place (sym c.in_ok-place.ensures.index) in
    let has : (inputs : List Bool) → gate_value inputs (gate_values inputs graph.gates) c.and-gate.result ≡ table inputs =
    λ inputs. ap (gate_value inputs (gate_values inputs graph.gates)) c.and-gate.ensures ∙ ordered_and-value a b inputs (gate_values inputs graph.gates) in
    rw (← c.self.view_is)
    (subst (Stands graph table) (sym c.output.ensures) (output_stands graph c.self.invariant.in_order c.in_ok-place.place c.and-gate.result at table has))
