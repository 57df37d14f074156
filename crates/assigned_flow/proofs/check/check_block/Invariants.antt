use Rattle.assigned_flow.proofs.Common.{AssignedBefore}
use Rattle.assigned_flow.proofs.check.check_block.Given as goal

abbrev pub invariant-loop-place : goal.invariant-loop-place
invariant-loop-place l = AssignedBefore l.f l.block l.place 0
