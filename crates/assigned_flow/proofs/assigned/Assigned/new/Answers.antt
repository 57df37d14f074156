use Rattle.assigned_flow.proofs.Common.{◌≡◌, sym, subst, ◌∙◌, length, length-map, IsClosed, successors_of}
use Rattle.assigned_flow.proofs.Correspondence.{IsClosed-successors_of}
use Rattle.assigned_flow.proofs.assigned.Assigned.new.Goals as goal

pub dominators-requires-clause-successors : goal.dominators-requires-clause-successors
dominators-requires-clause-successors c =
    let closed = IsClosed-successors_of c.args.f.now c.requires.some_block c.requires.targets in
    let closed_graph : IsClosed c.in_ok-graph.graph.successors = subst IsClosed (sym c.in_ok-graph.ensures) closed in
    closed_graph.targets

pub invariant_of-result : goal.invariant_of-result
invariant_of-result c =
    let closed = IsClosed-successors_of c.args.f.now c.requires.some_block c.requires.targets in
    let is : c.in_ok-dominators.dominators ≡ successors_of c.args.f.now = c.in_ok-dominators.ensures ∙ c.in_ok-graph.ensures in
    (subst (λ g. c.len-blocks.result ≡ length g) (sym is) (simp length-map c.len-blocks.ensures), subst IsClosed (sym is) closed)
