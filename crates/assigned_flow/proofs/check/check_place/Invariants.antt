use Rattle.assigned_flow.proofs.Common.{◌-◌, length, reads_at, AssignedBefore}
use Rattle.assigned_flow.proofs.check.check_place.Given as goal

abbrev pub invariant-loop-read : goal.invariant-loop-read
invariant-loop-read l = AssignedBefore l.f l.block l.place l.operand

abbrev pub decreases-loop-read : goal.decreases-loop-read
decreases-loop-read l = length (reads_at l.f l.block l.place) - l.operand
