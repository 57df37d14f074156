use Rattle.aig.proofs.Common.{◌≡◌, length, get_or, slice_get, Some, refl, ap, ◌∙◌, arith, slice_get_read}
use Rattle.aig.proofs.GraphLemmas.{OperandsAmong-later, value_of_gate}
use Rattle.aig.proofs.graph.Aig.gate.Goals as goal
use Rattle.aig.proofs.graph.Aig.gate.Goals.{After-index-as_slice-place}

at_place : (c : After-index-as_slice-place) → slice_get c.self.inside.gates.keys c.args.place ≡ Some c.index-as_slice-place.result
at_place c =
    let keys = c.self.inside.gates.keys in
    let gate = c.index-as_slice-place.result in
    slice_get_read keys (length keys) c.args.place gate refl (omega (arith, ap (λ g. length g.gates) c.self.view_is))
    (c.index-as_slice-place.is ∙ ap (λ l. get_or l c.args.place gate) c.as_slice.ensures.keys)

pub returns-clause-operands : goal.returns-clause-operands
returns-clause-operands c =
    let keys = c.self.inside.gates.keys in
    let gate = c.index-as_slice-place.result in
    rw (← c.self.view_is)
    (OperandsAmong-later c.self.inside.inputs c.args.place (length keys)
    (omega (arith, ap (λ g. length g.gates) c.self.view_is)) gate (c.self.invariant.in_order c.args.place gate (at_place c)))

pub returns-clause-value : goal.returns-clause-value
returns-clause-value c =
    rw (← c.self.view_is)
    (λ inputs. value_of_gate inputs c.self.inside.inputs c.self.inside.gates.keys c.self.invariant.in_order c.args.place
    c.index-as_slice-place.result (at_place c))
