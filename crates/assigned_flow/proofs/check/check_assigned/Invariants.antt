use Rattle.assigned_flow.proofs.Common.{AssignedBefore}
use Rattle.assigned_flow.proofs.check.check_assigned.Given as goal

abbrev pub invariant-loop-block : goal.invariant-loop-block
invariant-loop-block l = AssignedBefore l.f l.block 0 0
