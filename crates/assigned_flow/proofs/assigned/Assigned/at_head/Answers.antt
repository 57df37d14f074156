use Rattle.assigned_flow.proofs.Common.{subst, HasRegister}
use Rattle.assigned_flow.proofs.Correspondence.{assigned_result}
use Rattle.assigned_flow.proofs.assigned.Assigned.at_head.Goals as goal

pub returns-in-Result : goal.returns-in-Result
returns-in-Result c f is_graph has =
    assigned_result f c.args.self.now c.args.register c.in-Result.definition c.in-Result.place c.args.block 0 c.has_passed.result is_graph c.in-Result.is
    (subst (HasRegister f) c.in-Result.is has) c.has_passed.ensures
