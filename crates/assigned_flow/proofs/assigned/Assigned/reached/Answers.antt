use Rattle.assigned_flow.proofs.Correspondence.{reached_in}
use Rattle.assigned_flow.proofs.assigned.Assigned.reached.Goals as goal

pub returns : goal.returns
returns c f is_graph =
    let same = reached_in f c.args.self.now c.args.block is_graph in
    (λ yes. same.0 (c.has_walk_to.ensures.0 yes), λ reached. c.has_walk_to.ensures.1 (same.1 reached))
