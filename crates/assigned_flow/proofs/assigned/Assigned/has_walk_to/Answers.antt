use Rattle.assigned_flow.proofs.Common.{arith, common_steps}
use Rattle.assigned_flow.proofs.Passing.{reached_within}
use Rattle.assigned_flow.proofs.assigned.Assigned.has_walk_to.Goals as goal

pub returns-else-block-self : goal.returns-else-block-self
returns-else-block-self c =
    grind (arith, common_steps, reached_within c.self.inside.dominators c.args.block c.self.invariant.1)
